use Rattle.std.proofs.Common.{◌<◌, ℕ, get_or, take}
use Rattle.grid_base.specs.declared.piece.Piece.{Piece}
use Rattle.grid_graph.specs.Weighed.{IsAllowed}
use Rattle.reference_programs.proofs.listing.are_different.Given as goal

abbrev pub invariant-loop-i : goal.invariant-loop-i
invariant-loop-i l = (k : ℕ) (d : Piece × ℕ) → k < l.i → ¬ IsAllowed (take k l.pieces) (get_or l.pieces k d).0
