use Rattle.std.proofs.Common.{ℕ, ◌≡◌, ◌<◌, length, slice_index}
use Rattle.hot_cuts.specs.Markets.{price_if_fuller}
use Rattle.hot_cuts.proofs.market.Market.price_fuller.Given as goal

-- the prices of the links so far
abbrev pub invariant-loop-place : goal.invariant-loop-place
invariant-loop-place l = record {
  long : length l.self.prices.items ≡ length l.initial.self.prices.items;
  prices : (k : ℕ) → k < l.place → k < length l.self.prices.items → slice_index l.self.prices.items k ≡ price_if_fuller l.level l.initial.self.links.now k;
}
