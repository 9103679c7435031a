use Rattle.std.proofs.Common.{◌≡◌, ◌≤◌, map}
use Rattle.std.specs.List.{range_with_len}
use Rattle.route_judge.specs.Counts.{open_below, listed_price}
use Rattle.route_judge.proofs.listing.listed_prices.Given as goal

-- the prices so far, and the place of the next open edge's price
abbrev pub invariant-loop-e : goal.invariant-loop-e
invariant-loop-e l = record {
  prices : l.prices.items ≡ map (listed_price l.grid l.listed) (range_with_len 0 l.e);
  place : l.place ≡ open_below l.grid l.e;
  small : l.place ≤ l.e;
}
