use Rattle.guide_text.specs.TileRects.{AreFirstRects}
use Rattle.guide_text.proofs.tile_rects.rects_of.Given as goal

-- the rectangles of the tiles so far
abbrev pub invariant-loop-place : goal.invariant-loop-place
invariant-loop-place l = AreFirstRects l.tiles.size l.tiles.numbers.items l.place l.rects.items
