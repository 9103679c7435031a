use Rattle.std.proofs.Common.{◌<◌, ℕ, get_or}
use Rattle.grid_base.specs.declared.piece.Piece.{Piece}
use Rattle.reference_programs.specs.LowerNumbers.{listed_number, IsSlack}
use Rattle.reference_programs.proofs.reference_paths.first_lower.Given as goal

abbrev pub invariant-loop-entry : goal.invariant-loop-entry
invariant-loop-entry l = (k : ℕ) (d : Piece × ℕ) → k < l.entry-index
    → IsSlack l.size (listed_number l.numbers) (get_or l.pieces k d).0 (get_or l.pieces k d).1
