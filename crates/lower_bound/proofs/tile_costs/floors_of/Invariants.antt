use Rattle.std.proofs.Common.{ℕ, ◌<◌, ◌≤◌, slice_index}
use Rattle.grid_base.specs.Numbers.{edge_axis}
use Rattle.grid_graph.specs.Floors.{floor_along, AreWithin}
use Rattle.lower_bound.proofs.tile_costs.floors_of.Given as goal

abbrev pub invariant-loop-e : goal.invariant-loop-e
invariant-loop-e l = record {
  floored : (k : ℕ) → k < l.e → floor_along l.floors (edge_axis k) ≤ slice_index l.costs k;
  within : AreWithin l.floors;
}
