use Rattle.guide_text.specs.Marking.{AreMarked}
use Rattle.guide_text.proofs.MarkedRects.{IsInRows}
use Rattle.guide_text.proofs.covering.mark_tiles.Given as goal

-- the tiles of the rows so far are marked
abbrev pub invariant-loop-row : goal.invariant-loop-row
invariant-loop-row l = AreMarked l.tiles.numbers.items (IsInRows l.size l.rect l.row) l.fn.marks.items l.marks.items
