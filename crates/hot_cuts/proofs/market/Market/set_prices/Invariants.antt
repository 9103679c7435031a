use Rattle.std.proofs.Common.{ℕ, ◌≡◌, ◌<◌, length, slice_index}
use Rattle.hot_cuts.specs.Markets.{given_price}
use Rattle.hot_cuts.proofs.market.Market.set_prices.Given as goal

-- the prices so far
abbrev pub invariant-loop-place : goal.invariant-loop-place
invariant-loop-place l = record {
  long : length l.self.prices.items ≡ length l.initial.self.prices.items;
  prices : (k : ℕ) → k < l.place → k < length l.self.prices.items → slice_index l.self.prices.items k ≡ given_price (slice_index l.prices k);
}
