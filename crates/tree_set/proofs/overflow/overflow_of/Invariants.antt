use Rattle.std.proofs.Common.{◌≡◌, ◌≤◌, ◌*◌, slice_index, map, sum}
use Rattle.std.specs.List.{range_with_len}
use Rattle.grid_graph.specs.Grids.{kind, capacity}
use Rattle.tree_set.specs.Measures.{excess}
use Rattle.tree_set.proofs.overflow.overflow_of.Given as goal
use Rattle.tree_set.specs.Limits.{max_routing_load}

-- the excesses so far, each at most 2^32
abbrev pub invariant-loop-e : goal.invariant-loop-e
invariant-loop-e l = record {
  total : l.total ≡ sum (map (λ e. excess (kind l.grid e) (slice_index l.loads e) (capacity l.grid e)) (range_with_len 0 l.e));
  small : l.total ≤ l.e * max_routing_load;
}
