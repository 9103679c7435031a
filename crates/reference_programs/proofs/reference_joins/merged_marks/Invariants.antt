use Rattle.std.proofs.Common.{take}
use Rattle.reference_programs.specs.Marks.{AreMarks}
use Rattle.reference_programs.proofs.reference_joins.merged_marks.Given as goal

abbrev pub invariant-loop-p : goal.invariant-loop-p
invariant-loop-p l = AreMarks l.size (take l.p-index l.pieces) l.marks.items
