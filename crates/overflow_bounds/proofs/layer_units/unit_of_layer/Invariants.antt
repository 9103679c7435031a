use Rattle.std.proofs.Common.{◌≡◌, ◌%◌, ◌<◌, ◌≤◌, ℕ}
use Rattle.grid_base.specs.Lists.{At}
use Rattle.grid_graph.specs.declared.net_spec.NetSpec.{NetSpec}
use Rattle.grid_graph.specs.Grids.{demand_on}
use Rattle.grid_graph.specs.Limits.{max_demand}
use Rattle.overflow_bounds.proofs.layer_units.unit_of_layer.Given as goal

-- what the nets so far use of the edge
abbrev pub invariant-loop-net : goal.invariant-loop-net
invariant-loop-net l = record {
  some : 0 < l.net-index → 0 < l.unit;
  small : l.unit ≤ max_demand;
  divides : (k : ℕ) (n : NetSpec) → k < l.net-index → At l.design.nets k n → demand_on l.design.grid n.width l.edge.0 % l.unit ≡ 0;
}
