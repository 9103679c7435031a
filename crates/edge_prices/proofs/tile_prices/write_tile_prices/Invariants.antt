use Rattle.std.proofs.Common.{◌≡◌, ℕ, ◌<◌, get_or}
use Rattle.edge_prices.specs.TilePrices.{least_price_over}
use Rattle.edge_prices.proofs.tile_prices.write_tile_prices.Given as goal

-- the entries before this one are written
abbrev pub invariant-loop-e : goal.invariant-loop-e
invariant-loop-e l = (k : ℕ) → k < l.e → get_or l.out k 0 ≡ least_price_over l.grid l.prices k
