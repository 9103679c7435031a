-- Tables with a number for each mask of terminals and each vertex, after Dreyfus and Wagner, "The Steiner problem in
-- graphs" (1971).
use Rattle.std.specs.Prelude.{ℕ, ◌≡◌, ◌+◌, ◌-◌, ◌<◌, ◌≤◌, ◌⊎◌, List, Option, Some, None, cond, ltb, max}
use Rattle.grid_base.specs.declared.piece.Piece.{Piece}
use Rattle.grid_base.specs.declared.size.Size.{Size}
use Rattle.grid_base.specs.declared.vertex.Vertex.{Vertex}
use Rattle.grid_base.specs.Lists.{At}
use Rattle.grid_base.specs.Numbers.{IsVertex, Connects}
use Rattle.grid_base.specs.Walks.{Joins}
use Rattle.grid_graph.specs.Weighed.{Weighs, IsAllowed}
use Rattle.steiner_tables.specs.Masks.{single, all_of, AreParts, WithVertex}
use Rattle.label_search.specs.Searches.{IsBehind}
use Rattle.label_search.specs.Sets.{IsSetOf, IsLeastWeight, AreApart, RisesSlowly, weight}

-- a table for the masks up to the last one holds: a terminal alone has 0 at itself, each number is at most that of every
-- neighbour and the weight of the piece between, and at most the sum of the two numbers for each split of its mask. Only
-- "at most" is asked, so a table may have any lower numbers.
pub record IsHoldingTable (s : Size) (pieces : List (Piece × ℕ)) (terminals : List Vertex) (last : ℕ)
    (number : ℕ → ℕ → ℕ) : Type 0 where
  pub own : (place : ℕ) (v : Vertex) → At terminals place v → single place ≤ last → number (single place) v.0 ≡ 0
  pub steps : (mask : ℕ) → 0 < mask → mask ≤ last → RisesSlowly s pieces (number mask)
  pub splits : (one other mask v : ℕ) → AreParts one other mask → mask ≤ last → IsVertex s v
      → number mask v ≤ number one v + number other v

-- a family of lower bounds: a table that holds for all masks but that of all terminals
abbrev pub IsFamily : Size → List (Piece × ℕ) → List Vertex → (ℕ → ℕ → ℕ) → Type 0
IsFamily s pieces terminals low = IsHoldingTable s pieces terminals (all_of terminals - 1) low

-- what a family leaves to go from a vertex, where a set joins it with the terminals of a mask: the bound for the others
abbrev pub rest_of : List Vertex → (ℕ → ℕ → ℕ) → ℕ → ℕ → ℕ
rest_of terminals low mask v = low (all_of terminals - mask) v

-- a set of allowed pieces of at most this weight joins a vertex and the terminals of a mask
pub record HasTree (s : Size) (pieces : List (Piece × ℕ)) (terminals : List Vertex) (mask v limit : ℕ) : Type 0 where
  pub set : List (Piece × ℕ)
  pub is_set : IsSetOf pieces set
  pub joins : Joins s (IsAllowed set) (WithVertex terminals mask v)
  pub light : weight set ≤ limit

-- a mask is in two parts whose numbers add up to at most its own
pub record IsSplit (number : ℕ → ℕ → ℕ) (mask v : ℕ) : Type 0 where
  pub one : ℕ
  pub other : ℕ
  pub parts : AreParts one other mask
  pub less : number one v + number other v ≤ number mask v

-- the mask is that of a terminal alone, which the vertex is
abbrev pub IsAlone : List Vertex → ℕ → ℕ → Type 0
IsAlone terminals mask v = (place : ℕ) × At terminals place (record { 0 = v }) × (mask ≡ single place)

-- a number is reached in one of three ways: at a terminal alone, from a neighbour, or by a split of its mask
abbrev pub IsReachedBy : Size → List (Piece × ℕ) → List Vertex → (ℕ → ℕ → ℕ) → ℕ → ℕ → Type 0
IsReachedBy s pieces terminals number mask v =
    IsAlone terminals mask v ⊎ (IsBehind s pieces (number mask) v ⊎ IsSplit number mask v)

-- the numbers of a table that was pruned: none is kept where it and what is left to go are above a limit, `far` stands
-- where none is kept, and what could lower a number was refused for that limit
pub record IsPrunedTable (s : Size) (pieces : List (Piece × ℕ)) (terminals : List Vertex) (last : ℕ) (low : ℕ → ℕ → ℕ)
    (limit far : ℕ) (number : ℕ → ℕ → ℕ) : Type 0 where
  pub within : (mask v : ℕ) → 0 < mask → mask ≤ last → number mask v < far
      → number mask v + rest_of terminals low mask v ≤ limit
  pub above : (mask v : ℕ) → number mask v ≤ far
  pub trees : (mask v : ℕ) → 0 < mask → mask ≤ last → number mask v < far → HasTree s pieces terminals mask v (number mask v)
  pub reached : (mask v : ℕ) → 0 < mask → mask ≤ last → number mask v < far → IsReachedBy s pieces terminals number mask v
  pub own : (place : ℕ) (v : Vertex) → At terminals place v → single place ≤ last
      → (number (single place) v.0 ≡ 0) ⊎ (limit < rest_of terminals low (single place) v.0)
  pub steps : (mask : ℕ) (p : Piece) (k v u : ℕ) → 0 < mask → mask ≤ last → Weighs pieces p k → Connects s p v u
      → number mask v < far
      → (number mask u ≤ number mask v + k) ⊎ (limit < number mask v + k + rest_of terminals low mask u)
  pub splits : (one other mask v : ℕ) → AreParts one other mask → mask ≤ last → IsVertex s v → number one v < far
      → number other v < far
      → (number mask v ≤ number one v + number other v) ⊎ (limit < number one v + number other v + rest_of terminals low mask v)

-- the answer for a mask and a vertex under a limit: the least weight of a set that joins the vertex and the mask's
-- terminals, where that weight and what is left to go are within the limit; none where every such set is above it
abbrev pub IsPrunedLabel : Size → List (Piece × ℕ) → List Vertex → (ℕ → ℕ → ℕ) → ℕ → ℕ → ℕ → Option ℕ → Type 0
IsPrunedLabel s pieces terminals low limit mask v (Some x) =
    IsLeastWeight s pieces (WithVertex terminals mask v) x × (x + rest_of terminals low mask v ≤ limit)
IsPrunedLabel s pieces terminals low limit mask v None =
    (set : List (Piece × ℕ)) → IsSetOf pieces set → Joins s (IsAllowed set) (WithVertex terminals mask v)
    → limit < weight set + rest_of terminals low mask v

-- the same without a limit: the least weight, and none exactly where no set joins them
abbrev pub IsLabel : Size → List (Piece × ℕ) → List Vertex → ℕ → ℕ → Option ℕ → Type 0
IsLabel s pieces terminals mask v (Some x) = IsLeastWeight s pieces (WithVertex terminals mask v) x
IsLabel s pieces terminals mask v None = AreApart s pieces (WithVertex terminals mask v)

-- a number as an answer: none where it is the one that stands for none
abbrev pub answer_at : ℕ → ℕ → Option ℕ
answer_at far number = cond (ltb number far) (Some number) None

-- a table that was pruned, completed: where no number was kept, the greater of the bound and of what is over the limit
-- beside what is left to go
abbrev pub completed : List Vertex → (ℕ → ℕ → ℕ) → ℕ → ℕ → (ℕ → ℕ → ℕ) → ℕ → ℕ → ℕ
completed terminals low limit far number mask v =
    cond (ltb (number mask v) far) (number mask v) (max (low mask v) (limit + 1 - rest_of terminals low mask v))

-- a number is that of a neighbour and the weight of an allowed piece between
pub record IsFromNeighbour (s : Size) (pieces : List (Piece × ℕ)) (number : ℕ → ℕ) (v : ℕ) : Type 0 where
  pub before : ℕ
  pub piece : Piece
  pub by : ℕ
  pub connects : Connects s piece before v
  pub weighs : Weighs pieces piece by
  pub sum : number v ≡ number before + by

-- a number is the sum of those of two parts of its mask
pub record IsFromParts (number : ℕ → ℕ → ℕ) (mask v : ℕ) : Type 0 where
  pub one : ℕ
  pub other : ℕ
  pub parts : AreParts one other mask
  pub sum : number mask v ≡ number one v + number other v

-- a number stands for one of three: 0 at a terminal alone, a neighbour's with a piece, or the sum of two parts
abbrev pub IsReachedExactly : Size → List (Piece × ℕ) → List Vertex → (ℕ → ℕ → ℕ) → ℕ → ℕ → Type 0
IsReachedExactly s pieces terminals number mask v =
    (IsAlone terminals mask v × (number mask v ≡ 0)) ⊎ (IsFromNeighbour s pieces (number mask) v ⊎ IsFromParts number mask v)
