-- Lists of pieces with their weights.
use Rattle.std.specs.Prelude.{ℕ, ◌≤◌, List, map}
use Rattle.std.specs.List.{Contains}
use Rattle.grid_base.specs.declared.piece.Piece.{Piece}
use Rattle.grid_base.specs.declared.size.Size.{Size}
use Rattle.grid_base.specs.Numbers.{IsPiece}
use Rattle.grid_graph.specs.Limits.{max_weight}
use Rattle.grid_base.specs.Lists.{HasNoRepeats}

-- the piece is in the list with this weight
abbrev pub Weighs : List (Piece × ℕ) → Piece → ℕ → Type 0
Weighs pieces p weight = Contains pieces (p, weight)

-- the piece is in the list
abbrev pub IsAllowed : List (Piece × ℕ) → Piece → Type 0
IsAllowed pieces p = (weight : ℕ) × Weighs pieces p weight

-- no piece stands in the list twice
abbrev pub NoPieceTwice : List (Piece × ℕ) → Type 0
NoPieceTwice pieces = HasNoRepeats (map (λ x. x.0) pieces)

-- all are pieces of one size
abbrev pub WeighsOnlyPieces : Size → List (Piece × ℕ) → Type 0
WeighsOnlyPieces s pieces = (p : Piece) → IsAllowed pieces p → IsPiece s p

-- no weight is above the limit
abbrev pub AreWithinLimit : List (Piece × ℕ) → Type 0
AreWithinLimit pieces = (p : Piece) (weight : ℕ) → Weighs pieces p weight → weight ≤ max_weight
