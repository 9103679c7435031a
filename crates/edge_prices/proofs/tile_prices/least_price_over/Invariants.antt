use Rattle.std.proofs.Common.{◌≡◌}
use Rattle.edge_prices.specs.Least.{least}
use Rattle.edge_prices.specs.TilePrices.{no_price, price_on}
use Rattle.edge_prices.proofs.tile_prices.least_price_over.Given as goal

-- the least so far
abbrev pub invariant-loop-layer : goal.invariant-loop-layer
invariant-loop-layer l = l.least ≡ least no_price (price_on l.grid l.prices l.e) l.layer
