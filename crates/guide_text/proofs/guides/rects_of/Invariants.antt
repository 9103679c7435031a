use Rattle.std.proofs.Common.{◌≡◌, take, map}
use Rattle.guide_text.specs.Guides.{rect_of}
use Rattle.guide_text.proofs.guides.rects_of.Given as goal

-- the corners of the rectangles so far
abbrev pub invariant-loop-tile_rect : goal.invariant-loop-tile_rect
invariant-loop-tile_rect l = l.rects.items ≡ map (rect_of l.grid) (take l.tile_rect-index l.tiles)
