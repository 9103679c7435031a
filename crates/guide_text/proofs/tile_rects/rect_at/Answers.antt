use Rattle.std.proofs.Common.{◌∙◌, ap, subst, get_or}
use Rattle.std.specs.Prelude.{MatchOption}
use Rattle.grid_base.specs.declared.place.Place.{Place}
use Rattle.grid_base.specs.Numbers.{place_at}
use Rattle.guide_text.proofs.FirstRects.{rect_at_place}
use Rattle.guide_text.proofs.Runs.{no_run_no_rect}
use Rattle.guide_text.specs.declared.tile_rect.TileRect.{TileRect}
use Rattle.guide_text.specs.TileRects.{IsTileRect, StandsOn}
use Rattle.guide_text.proofs.tile_rects.rect_at.Goals as goal

pub returns-then-is_inner : goal.returns-then-is_inner
returns-then-is_inner c =
    let tiles = c.args.tiles.now in
    let before = c.is_inner.ensures.0 c.if-is_inner.true in
    no_run_no_rect tiles.size tiles.numbers.items (get_or tiles.numbers.items c.args.at 0) (λ last run. run.before before.0 before.1 before.2)

pub returns : goal.returns
returns c =
    let tiles = c.args.tiles.now in
    let s = tiles.size in
    let xs = tiles.numbers.items in
    let place = c.place_of-place.ensures.place ∙ ap (λ ys. place_at s (get_or ys c.args.at 0)) c.list.ensures in
    rect_at_place s xs (get_or xs c.args.at 0) c.rect_on.result
    (subst (λ (p : Place). MatchOption c.rect_on.result ((rect : TileRect) → StandsOn p.layer p.row p.col rect → ¬ IsTileRect s xs rect) (λ rect. IsTileRect s xs rect × StandsOn p.layer p.row p.col rect)) place c.rect_on.ensures)
