use Rattle.std.proofs.Common.{◌≡◌, ◌≤◌, take}
use Rattle.std.specs.List.{count_by}
use Rattle.route_judge.specs.Counts.{needs_choked_edges}
use Rattle.route_judge.proofs.claims.forced_count.Given as goal

-- how many of the grounds so far are those of forced nets
abbrev pub invariant-loop-over : goal.invariant-loop-over
invariant-loop-over l = record {
  counted : l.count ≡ count_by needs_choked_edges (take l.over-index l.grounds);
  small : l.count ≤ l.over-index;
}
