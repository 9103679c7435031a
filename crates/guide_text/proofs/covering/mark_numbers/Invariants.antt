use Rattle.guide_text.specs.Marking.{AreMarked, IsInSpan}
use Rattle.guide_text.proofs.covering.mark_numbers.Given as goal

-- the numbers so far are marked
abbrev pub invariant-loop-number : goal.invariant-loop-number
invariant-loop-number l = AreMarked l.tiles.numbers.items (IsInSpan l.first l.number) l.fn.marks.items l.marks.items
