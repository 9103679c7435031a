use Rattle.std.proofs.Common.{◌≡◌, ◌+◌, ◌<◌, ◌≤◌, All, length}
use Rattle.overflow_bounds.proofs.merged_graph.numbered.Given as goal

-- the groups so far have nodes, which are at most one more than they
abbrev pub invariant-loop-group : goal.invariant-loop-group
invariant-loop-group l = record {
  long : length l.nodes.items ≡ l.group-index;
  inside : All (λ n. n < l.count) l.nodes.items;
  some : 1 ≤ l.count;
  few : l.count ≤ l.group-index + 1;
}
