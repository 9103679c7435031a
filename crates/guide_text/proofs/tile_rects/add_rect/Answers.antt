use Rattle.guide_text.proofs.FirstRects.{none_more, some_more}
use Rattle.guide_text.proofs.tile_rects.add_rect.Goals as goal

pub returns-in-None : goal.returns-in-None
returns-in-None c =
    let tiles = c.args.tiles.now in
    none_more tiles.size tiles.numbers.items c.args.place c.args.rects.now.items c.requires.first c.in-None.ensures

pub returns-in_ok-push-in-Some : goal.returns-in_ok-push-in-Some
returns-in_ok-push-in-Some c =
    let tiles = c.args.tiles.now in
    let found = c.in-Some.ensures in
    rw c.in_ok-push-in-Some.ensures.items (some_more tiles.size tiles.numbers.items c.args.place c.args.rects.now.items c.in-Some.rect tiles.rising c.requires.place c.requires.first found.0 found.1)
