use Rattle.std.proofs.Common.{◌≡◌, ◌≤◌}
use Rattle.route_judge.specs.Counts.{open_below}
use Rattle.route_judge.proofs.claims.open_count.Given as goal

-- how many of the edges so far are open
abbrev pub invariant-loop-e : goal.invariant-loop-e
invariant-loop-e l = record {
  counted : l.count ≡ open_below l.grid l.e;
  small : l.count ≤ l.e;
}
