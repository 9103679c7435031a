-- Vertices with marks that tell which of them pieces join.
use Rattle.std.specs.Prelude.{◌≡◌, ℕ, ◌↔◌, List, length, slice_index}
use Rattle.grid_base.specs.declared.piece.Piece.{Piece}
use Rattle.grid_base.specs.declared.size.Size.{Size}
use Rattle.grid_base.specs.Numbers.{vertices, IsVertex}
use Rattle.grid_base.specs.Walks.{WalkBetween, InPieces}

-- one mark per vertex, and two vertices have one mark exactly where a walk in the pieces leads from the one to the other
pub record AreMarks (s : Size) (pieces : List Piece) (marks : List ℕ) : Type 0 where
  pub long : length marks ≡ vertices s
  pub same : (a b : ℕ) → IsVertex s a → IsVertex s b
      → (slice_index marks a ≡ slice_index marks b) ↔ WalkBetween s (InPieces pieces) a b
