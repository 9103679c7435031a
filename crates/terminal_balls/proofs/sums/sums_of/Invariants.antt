use Rattle.std.proofs.Common.{ℕ, ◌≡◌, ◌<◌, length, slice_index}
use Rattle.steiner_tables.specs.Masks.{few_terminals}
use Rattle.terminal_balls.specs.Balls.{radii_sum}
use Rattle.terminal_balls.proofs.sums.sums_of.Given as goal

-- the masks before this one have their sums
abbrev pub invariant-loop-mask : goal.invariant-loop-mask
invariant-loop-mask l = record {
  long : length l.sums ≡ 32;
  summed : (mask : ℕ) → mask < l.mask → slice_index l.sums mask ≡ radii_sum (slice_index l.radii) mask few_terminals;
}
