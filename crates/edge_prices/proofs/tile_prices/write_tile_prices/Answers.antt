use Rattle.std.proofs.Common.{◌<◌, length, arith}
use Rattle.std.proofs.lemmas.List.Edits.{fill_by_more}
use Rattle.edge_prices.specs.TilePrices.{least_price_over}
use Rattle.edge_prices.proofs.tile_prices.write_tile_prices.Goals as goal

pub loop-e-preserved : goal.loop-e-preserved
loop-e-preserved c =
    let below : c.loop-e.e < length c.loop-e.out = omega arith in
    rw c.least_price_over.ensures (fill_by_more (least_price_over c.args.grid.now c.args.prices.now) c.loop-e.out c.loop-e.e 0 below c.loop-e.invariant)

pub returns : goal.returns
returns c = record {
  long = omega arith;
  each = λ k below. c.loop-e.invariant k (omega arith);
}
