use Rattle.std.proofs.Common.{refl}
use Rattle.guide_text.proofs.Runs.{not_both, other_run}
use Rattle.guide_text.proofs.tile_rects.rect_on.Goals as goal

pub returns-then-has_run_below : goal.returns-then-has_run_below
returns-then-has_run_below c =
    let tiles = c.args.tiles.now in
    let b = c.has_run_below.ensures.0 c.if-has_run_below.true in
    λ rect on is. other_run tiles.size tiles.numbers.items c.args.layer c.args.row c.args.first_col c.args.last_col b.0 c.requires b.1 b.2 rect on is

pub returns : goal.returns
returns c = (
  record {
    order = c.last_row-last_row.ensures.order;
    each = c.last_row-last_row.ensures.each;
    below = λ row next run. not_both c.has_run_below.result (c.has_run_below.ensures.1 (row, next, run)) c.if-has_run_below.false;
    above = c.last_row-last_row.ensures.above;
  },
  record { in_layer = refl; from_row = refl; from_col = refl },
)
