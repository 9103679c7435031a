use Rattle.std.proofs.Common.{All, take}
use Rattle.guide_text.specs.Covering.{IsCovered, IsTiled}
use Rattle.guide_text.specs.Marking.{AreMarked}
use Rattle.guide_text.proofs.covering.mark_rects.Given as goal

-- the tiles inside the rectangles so far are marked
abbrev pub invariant-loop-rect : goal.invariant-loop-rect
invariant-loop-rect l = record {
  whole : All (IsTiled l.grid) (take l.rect-index l.rects);
  marked : AreMarked l.tiles.numbers.items (IsCovered l.grid (take l.rect-index l.rects)) l.fn.marks.items l.marks.items;
}
