use Rattle.std.proofs.Common.{◌≤◌, ◌<◌, ℕ, get_or}
use Rattle.grid_base.specs.declared.piece.Piece.{Piece}
use Rattle.grid_base.specs.Numbers.{IsPiece}
use Rattle.grid_graph.specs.Limits.{max_weight}
use Rattle.reference_programs.proofs.listing.are_light_pieces.Given as goal

abbrev pub invariant-loop-entry : goal.invariant-loop-entry
invariant-loop-entry l = record {
  inside : (k : ℕ) (d : Piece × ℕ) → k < l.entry-index → IsPiece l.size (get_or l.pieces k d).0;
  light : (k : ℕ) (d : Piece × ℕ) → k < l.entry-index → (get_or l.pieces k d).1 ≤ max_weight;
}
