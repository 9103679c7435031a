-- Numbers of all vertices in one list, and what a piece lowers among them.
use Rattle.std.specs.Prelude.{ℕ, ◌≡◌, ◌+◌, ◌*◌, ◌^◌, ◌<◌, ◌≤◌, List, Option, Some, None, get_or, cond, ltb}
use Rattle.grid_base.specs.declared.piece.Piece.{Piece}
use Rattle.grid_base.specs.declared.size.Size.{Size}
use Rattle.grid_base.specs.Numbers.{Connects, start_of, end_of}
use Rattle.grid_graph.specs.Weighed.{Weighs}

-- stands for the number of a vertex that nothing reached: above what 3 * 2^23 pieces weigh at most, at a weight of at most 2^38
-- each
abbrev pub unreached : ℕ
unreached = 3 * 2 ^ 61 + 1

-- the number of a vertex
abbrev pub listed_number : List ℕ → ℕ → ℕ
listed_number numbers v = get_or numbers v unreached

-- a number as a distance
abbrev pub distance_by : ℕ → Option ℕ
distance_by number = cond (ltb number unreached) (Some number) None

-- the vertex gets this number by an allowed piece from a neighbour, and it is below the one that it has (Ford 1956)
pub record IsLowerNumber (s : Size) (pieces : List (Piece × ℕ)) (num : ℕ → ℕ) (to number : ℕ) : Type 0 where
  pub from : ℕ
  pub piece : Piece
  pub weight : ℕ
  pub weighs : Weighs pieces piece weight
  pub connects : Connects s piece from to
  pub is : number ≡ num from + weight
  pub less : number < num to

-- neither end of a piece can lower the number of the other
abbrev pub IsSlack : Size → (ℕ → ℕ) → Piece → ℕ → Type 0
IsSlack s num p weight = (num (end_of s p) ≤ num (start_of p) + weight) × (num (start_of p) ≤ num (end_of s p) + weight)
