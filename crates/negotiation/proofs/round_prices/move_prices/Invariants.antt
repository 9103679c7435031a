use Rattle.std.proofs.Common.{◌≡◌, ◌<◌, ◌≤◌, ℕ, pos, length, slice_index, slice_index_or}
use Rattle.negotiation.specs.RoundPrices.{price_after_round}
use Rattle.negotiation.proofs.round_prices.move_prices.Given as goal

-- the prices so far followed the rooms, and the others are as they were
abbrev pub invariant-loop-e : goal.invariant-loop-e
invariant-loop-e l = record {
  long : length l.prices ≡ length l.initial.prices;
  moved : (k : ℕ) → k < l.e → slice_index l.prices k ≡ price_after_round (slice_index l.initial.prices k) (slice_index_or l.rooms k (pos 0));
  left : (k : ℕ) → l.e ≤ k → slice_index l.prices k ≡ slice_index l.initial.prices k;
}
