use Rattle.std.proofs.Common.{◌≡◌, length}
use Rattle.hot_cuts.proofs.market.Market.mean_prices.Given as goal

-- a price for each sum so far
abbrev pub invariant-loop-sum : goal.invariant-loop-sum
invariant-loop-sum l = length l.prices.items ≡ l.sum-index
