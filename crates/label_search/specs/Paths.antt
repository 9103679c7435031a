-- Walks as lists of allowed pieces.
use Rattle.std.specs.Prelude.{ℕ, ◌≡◌, ◌+◌, ◌<◌, ◌≤◌, List, [], ◌∷◌}
use Rattle.grid_base.specs.declared.piece.Piece.{Piece}
use Rattle.grid_base.specs.declared.size.Size.{Size}
use Rattle.grid_base.specs.Numbers.{Connects}
use Rattle.grid_graph.specs.Weighed.{Weighs}

-- an allowed piece of this weight connects two vertices
pub record IsArc (s : Size) (pieces : List (Piece × ℕ)) (p : Piece) (a b weight : ℕ) : Type 0 where
  pub connects : Connects s p a b
  pub weighs : Weighs pieces p weight

-- the list is a walk of allowed pieces from a to b, and the sum of their weights is the total
abbrev pub IsPath : Size → List (Piece × ℕ) → ℕ → ℕ → ℕ → List Piece → Type 0
IsPath s pieces a b total [] = (a ≡ b) × (total ≡ 0)
IsPath s pieces a b total (p ∷ rest) =
    (next : ℕ) × (weight : ℕ) × (left : ℕ) × IsArc s pieces p a next weight × IsPath s pieces next b left rest
    × (total ≡ weight + left)

-- no allowed piece weighs nothing
abbrev pub NoneWeighsNothing : List (Piece × ℕ) → Type 0
NoneWeighsNothing pieces = (p : Piece) (weight : ℕ) → Weighs pieces p weight → 0 < weight

-- a step to a neighbour whose number is smaller by at least the weight of the piece between
pub record IsStepBack (s : Size) (pieces : List (Piece × ℕ)) (num : ℕ → ℕ) (v before : ℕ) (p : Piece) : Type 0 where
  pub weight : ℕ
  pub step : IsArc s pieces p v before weight
  pub less : num before + weight ≤ num v

-- an allowed piece leads from a vertex of this number to one of at most that
pub record IsPieceBack (pieces : List (Piece × ℕ)) (p : Piece) (before number : ℕ) : Type 0 where
  pub weight : ℕ
  pub weighs : Weighs pieces p weight
  pub within : before + weight ≤ number
