-- Sets of allowed pieces, their weights, and the distance of two vertices.
use Rattle.std.specs.Prelude.{ℕ, ◌≡◌, ◌+◌, ◌≤◌, ◌⊎◌, List, Option, Some, None}
use Rattle.std.specs.List.{Contains, sum_by}
use Rattle.grid_base.specs.declared.piece.Piece.{Piece}
use Rattle.grid_base.specs.declared.size.Size.{Size}
use Rattle.grid_base.specs.Numbers.{Connects}
use Rattle.grid_base.specs.Walks.{Joins}
use Rattle.grid_graph.specs.Weighed.{Weighs, IsAllowed, NoPieceTwice}

-- a set of allowed pieces: a list of some of them with their weights, each once
pub record IsSetOf (pieces set : List (Piece × ℕ)) : Type 0 where
  pub allowed : (x : Piece × ℕ) → Contains set x → Contains pieces x
  pub once : NoPieceTwice set

-- the weight of a set: the sum over its pieces
abbrev pub weight : List (Piece × ℕ) → ℕ
weight set = sum_by (λ x. x.1) set

-- the least weight of a set of allowed pieces that joins the vertices of T
pub record IsLeastWeight (s : Size) (pieces : List (Piece × ℕ)) (T : ℕ → Type 0) (least : ℕ) : Type 0 where
  pub set : List (Piece × ℕ)
  pub is_set : IsSetOf pieces set
  pub joins : Joins s (IsAllowed set) T
  pub weighs : weight set ≡ least
  pub lightest : (other : List (Piece × ℕ)) → IsSetOf pieces other → Joins s (IsAllowed other) T → least ≤ weight other

-- no set of allowed pieces joins the vertices of T
abbrev pub AreApart : Size → List (Piece × ℕ) → (ℕ → Type 0) → Type 0
AreApart s pieces T = (set : List (Piece × ℕ)) → IsSetOf pieces set → ¬ Joins s (IsAllowed set) T

-- one of two vertices
abbrev pub IsEither : ℕ → ℕ → ℕ → Type 0
IsEither a b v = (v ≡ a) ⊎ (v ≡ b)

-- the distance of two vertices is the least weight of a set of allowed pieces that joins them; where none does there is no
-- distance
abbrev pub IsDistance : Size → List (Piece × ℕ) → ℕ → ℕ → Option ℕ → Type 0
IsDistance s pieces a b (Some d) = IsLeastWeight s pieces (IsEither a b) d
IsDistance s pieces a b None = AreApart s pieces (IsEither a b)

-- a number for each vertex that rises along an allowed piece, in either direction, by at most the piece's weight
abbrev pub RisesSlowly : Size → List (Piece × ℕ) → (ℕ → ℕ) → Type 0
RisesSlowly s pieces D = (p : Piece) (k a b : ℕ) → Weighs pieces p k → Connects s p a b → D b ≤ D a + k
