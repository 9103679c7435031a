use Rattle.std.proofs.Common.{◌-◌, ◌≤◌, ℕ, length}
use Rattle.grid_base.specs.Lists.{At}
use Rattle.eco_route.specs.NetIndices.{AreRisingNumbers}
use Rattle.eco_route.proofs.net_index.place_in.Given as goal

-- the number's place lies between the bounds
abbrev pub invariant-loop-low : goal.invariant-loop-low
invariant-loop-low l = record {
  order : l.low ≤ l.high;
  within : l.high ≤ length l.numbers;
  least : AreRisingNumbers l.numbers → (place : ℕ) → At l.numbers place l.number → l.low ≤ place;
  most : AreRisingNumbers l.numbers → (place : ℕ) → At l.numbers place l.number → place ≤ l.high;
}

abbrev pub decreases-loop-low : goal.decreases-loop-low
decreases-loop-low l = l.high - l.low
