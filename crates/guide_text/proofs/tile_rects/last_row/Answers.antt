use Rattle.std.proofs.Common.{◌+◌, arith}
use Rattle.guide_text.specs.TileRects.{IsTileRun}
use Rattle.guide_text.proofs.Runs.{one_further, one_alone, not_both, first_tile}
use Rattle.guide_text.proofs.tile_rects.last_row.Goals as goal

pub loop-row-init : goal.loop-row-init
loop-row-init c =
    let tiles = c.args.tiles.now in
    record { order = omega arith; each = one_alone (λ r. IsTileRun tiles.size tiles.numbers.items c.args.layer r c.args.first_col c.args.last_col) c.args.first_row c.requires }

pub loop-row-preserved : goal.loop-row-preserved
loop-row-preserved c =
    let tiles = c.args.tiles.now in
    record {
      order = omega (arith, c.loop-row.invariant.order);
      each = one_further (λ r. IsTileRun tiles.size tiles.numbers.items c.args.layer r c.args.first_col c.args.last_col) c.args.first_row c.loop-row.row c.loop-row.invariant.each (c.is_run.ensures.0 c.loop-row-test.true);
    }

pub loop-row-smaller : goal.loop-row-smaller
loop-row-smaller c =
    let tiles = c.args.tiles.now in
    let next = first_tile tiles.size tiles.numbers.items c.args.layer (c.loop-row.row + 1) c.args.first_col c.args.last_col (c.is_run.ensures.0 c.loop-row-test.true) in
    omega (arith, next.in_rows)

pub returns-clause-above : goal.returns-clause-above
returns-clause-above c = λ run. not_both c.is_run.result (c.is_run.ensures.1 run) c.loop-row-test.false
