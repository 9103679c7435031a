use Rattle.std.proofs.Common.{◌<◌, ◌≤◌, ℕ, get_or}
use Rattle.grid_base.specs.declared.piece.Piece.{Piece}
use Rattle.grid_graph.specs.Limits.{max_weight}
use Rattle.reference_programs.proofs.listing.least_weight.Given as goal

abbrev pub invariant-loop-entry : goal.invariant-loop-entry
invariant-loop-entry l = record {
  below : (k : ℕ) (d : Piece × ℕ) → k < l.entry-index → l.least ≤ (get_or l.pieces k d).1;
  limit : l.least ≤ max_weight;
}
