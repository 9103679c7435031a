use Rattle.guide_text.proofs.FirstRects.{no_rects, all_rects}
use Rattle.guide_text.proofs.tile_rects.rects_of.Goals as goal

pub loop-place-init : goal.loop-place-init
loop-place-init c = rw c.in_ok-rects.ensures.items (no_rects c.args.tiles.now.size c.args.tiles.now.numbers.items)

pub add_rect-requires-clause-place : goal.add_rect-requires-clause-place
add_rect-requires-clause-place c = rw c.list-place-end.ensures at c.loop-place-test.true

pub returns : goal.returns
returns c =
    let tiles = c.args.tiles.now in
    all_rects tiles.size tiles.numbers.items c.loop-place.place c.loop-place.rects.items (rw c.list-place-end.ensures at c.loop-place-test.false) c.loop-place.invariant
