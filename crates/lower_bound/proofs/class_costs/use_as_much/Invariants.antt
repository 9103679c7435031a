use Rattle.std.proofs.Common.{ℕ, ◌≡◌, ◌<◌}
use Rattle.grid_base.specs.Numbers.{layer_of, edge_start}
use Rattle.grid_graph.specs.Grids.{size_of, demand_on, edge_numbers}
use Rattle.lower_bound.proofs.class_costs.use_as_much.Given as goal

-- on the layers before this one
abbrev pub invariant-loop-layer : goal.invariant-loop-layer
invariant-loop-layer l = (e : ℕ) → e < edge_numbers l.grid → layer_of (size_of l.grid) (edge_start e) < l.layer → demand_on l.grid l.one e ≡ demand_on l.grid l.other e
