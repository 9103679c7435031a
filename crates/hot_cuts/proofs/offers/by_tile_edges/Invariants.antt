use Rattle.std.proofs.Common.{◌≡◌, drop, fold, replicate}
use Rattle.hot_cuts.specs.Offers.{with_price}
use Rattle.hot_cuts.proofs.offers.by_tile_edges.Given as goal

-- the prices left are still to be written
abbrev pub invariant-loop-priced : goal.invariant-loop-priced
invariant-loop-priced l = fold with_price l.tile_prices.items (drop l.priced-index l.prices)
    ≡ fold with_price (replicate l.count 0) l.prices
