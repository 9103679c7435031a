use Rattle.std.proofs.Common.{◌∙◌, map, ap}
use Rattle.std.proofs.lemmas.List.{take_all}
use Rattle.guide_text.specs.Guides.{rect_of}
use Rattle.guide_text.proofs.GuideLists.{mapped_more}
use Rattle.guide_text.proofs.guides.rects_of.Goals as goal

pub loop-tile_rect-preserved : goal.loop-tile_rect-preserved
loop-tile_rect-preserved c =
    mapped_more (rect_of c.args.grid.now) c.args.tiles.now c.loop-tile_rect.tile_rect-index (record { layer = 0; first_row = 0; last_row = 0; first_col = 0; last_col = 0 })
    c.loop-tile_rect.rects.items c.push.new.self.items c.rect_of.result c.loop-tile_rect-test.true c.loop-tile_rect.invariant c.in_ok-push.ensures.items c.rect_of.ensures

pub returns : goal.returns
returns c = rw c.of.ensures (c.loop-tile_rect.invariant ∙ ap (map (rect_of c.args.grid.now)) (take_all c.loop-tile_rect.tile_rect-index c.args.tiles.now c.loop-tile_rect-test.false))
