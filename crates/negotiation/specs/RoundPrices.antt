-- Prices of rounds of negotiation.
use Rattle.std.specs.Prelude.{ℕ, ◌≡◌, ◌+◌, ◌-◌, ◌<◌, cond, ltb, ℤ, pos, negsuc, List, length, min, slice_index, slice_index_or}
use Rattle.std.specs.Int.{div_ceil}

-- the price of a round where so much room is left, from the price before: 10 more, up to 4,000, where room is lacking; where more
-- than 1 is left, less by one part of 50, rounded up; with 0 or 1 left the same
abbrev pub price_after_round : ℕ → ℤ → ℕ
price_after_round price (pos room) = cond (ltb 1 room) (price - div_ceil price 50) price
price_after_round price (negsuc n) = min (price + 10) 4000

-- each price is what follows from the one before and the room on its edge
pub record ArePricesAfterRound (rooms : List ℤ) (old new : List ℕ) : Type 0 where
  pub long : length new ≡ length old
  pub each : (e : ℕ) → e < length old → slice_index new e ≡ price_after_round (slice_index old e) (slice_index_or rooms e (pos 0))
