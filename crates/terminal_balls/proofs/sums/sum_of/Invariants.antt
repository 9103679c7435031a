use Rattle.std.proofs.Common.{◌≡◌, ◌≤◌, ◌*◌, slice_index}
use Rattle.terminal_balls.specs.Balls.{radii_sum, widest}
use Rattle.terminal_balls.proofs.sums.sum_of.Given as goal

-- the places before this one are summed
abbrev pub invariant-loop-place : goal.invariant-loop-place
invariant-loop-place l = record {
  sum : l.sum ≡ radii_sum (slice_index l.radii) l.mask l.place;
  small : l.sum ≤ l.place * widest;
}
