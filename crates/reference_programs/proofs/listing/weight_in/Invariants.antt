use Rattle.std.proofs.Common.{◌≡◌, ◌<◌, ℕ, get_or}
use Rattle.grid_base.specs.declared.piece.Piece.{Piece}
use Rattle.reference_programs.proofs.listing.weight_in.Given as goal

abbrev pub invariant-loop-entry : goal.invariant-loop-entry
invariant-loop-entry l = (k : ℕ) (d : Piece × ℕ) → k < l.entry-index → ¬ ((get_or l.pieces k d).0 ≡ l.p)
