-- Reading a tree back from a table of numbers.
use Rattle.std.specs.Prelude.{ℕ, ◌≡◌, ◌+◌, ◌<◌, ◌≤◌, List, ◌++◌, map, Contains}
use Rattle.grid_base.specs.declared.piece.Piece.{Piece}
use Rattle.grid_base.specs.declared.size.Size.{Size}
use Rattle.grid_base.specs.declared.vertex.Vertex.{Vertex}
use Rattle.grid_base.specs.Walks.{Joins, InPieces}
use Rattle.label_search.specs.Stamped.{most}
use Rattle.steiner_tables.specs.Masks.{AreParts, WithVertex}
use Rattle.label_search.specs.Sets.{IsSetOf, weight}
use Rattle.steiner_tables.specs.Tables.{IsReachedBy}

-- each number of the masks up to this one was reached
abbrev pub AreReached : Size → List (Piece × ℕ) → List Vertex → ℕ → (ℕ → ℕ → ℕ) → Type 0
AreReached s pieces terminals last number =
    (mask v : ℕ) → 0 < mask → mask ≤ last → number mask v ≤ most → IsReachedBy s pieces terminals number mask v

-- the listed pieces are allowed, join a vertex and the terminals of a mask, and weigh together at most so much
pub record IsRead (s : Size) (pieces : List (Piece × ℕ)) (terminals : List Vertex) (mask v limit : ℕ) (listed : List Piece) : Type 0 where
  pub weighed : List (Piece × ℕ)
  pub of : map (λ x. x.0) weighed ≡ listed
  pub allowed : (x : Piece × ℕ) → Contains weighed x → Contains pieces x
  pub joins : Joins s (InPieces listed) (WithVertex terminals mask v)
  pub light : weight weighed ≤ limit

-- such pieces were listed behind others
pub record IsReadOn (s : Size) (pieces : List (Piece × ℕ)) (terminals : List Vertex) (mask v limit : ℕ) (old new : List Piece) : Type 0 where
  pub more : List Piece
  pub after : new ≡ old ++ more
  pub read : IsRead s pieces terminals mask v limit more

-- pieces were listed that lead from one vertex to another: with what is read there they are what is read here
pub record LeadsTo (s : Size) (pieces : List (Piece × ℕ)) (mask : ℕ) (number : ℕ → ℕ) (here there : ℕ) (old new : List Piece) : Type 0 where
  pub more : List Piece
  pub after : new ≡ old ++ more
  pub leads : (terminals : List Vertex) (listed : List Piece) → IsRead s pieces terminals mask there (number there) listed → IsRead s pieces terminals mask here (number here) (more ++ listed)

-- a part of a mask and the rest, whose numbers add up to at most the mask's
pub record IsSplitBy (number : ℕ → ℕ → ℕ) (one other mask v : ℕ) : Type 0 where
  pub parts : AreParts one other mask
  pub less : number one v + number other v ≤ number mask v

-- the tree is a set of allowed pieces that join a vertex and the terminals of a mask, and weigh together at most so much
pub record IsTreeWithin (s : Size) (pieces : List (Piece × ℕ)) (terminals : List Vertex) (mask v limit : ℕ) (tree : List Piece) : Type 0 where
  pub set : List (Piece × ℕ)
  pub of : map (λ x. x.0) set ≡ tree
  pub is_set : IsSetOf pieces set
  pub joins : Joins s (InPieces tree) (WithVertex terminals mask v)
  pub light : weight set ≤ limit
