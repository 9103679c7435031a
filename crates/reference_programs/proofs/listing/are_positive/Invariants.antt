use Rattle.std.proofs.Common.{◌<◌, ℕ, get_or}
use Rattle.grid_base.specs.declared.piece.Piece.{Piece}
use Rattle.reference_programs.proofs.listing.are_positive.Given as goal

abbrev pub invariant-loop-entry : goal.invariant-loop-entry
invariant-loop-entry l = (k : ℕ) (d : Piece × ℕ) → k < l.entry-index → 0 < (get_or l.pieces k d).1
