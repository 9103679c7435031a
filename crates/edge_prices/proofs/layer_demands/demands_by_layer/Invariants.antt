use Rattle.std.proofs.Common.{◌≡◌, ℕ, length, ◌<◌, ◌≤◌, slice_index}
use Rattle.grid_base.specs.Limits.{max_layers}
use Rattle.grid_base.specs.Numbers.{layer_of, edge_start}
use Rattle.grid_graph.specs.Grids.{size_of, demand_on, edge_numbers}
use Rattle.grid_graph.specs.Limits.{max_demand}
use Rattle.edge_prices.proofs.layer_demands.demands_by_layer.Given as goal

-- the demands of the layers before this one are known
abbrev pub invariant-loop-layer : goal.invariant-loop-layer
invariant-loop-layer l = record {
  value : (e : ℕ) → e < edge_numbers l.grid → layer_of (size_of l.grid) (edge_start e) < l.layer → slice_index l.demands (layer_of (size_of l.grid) (edge_start e)) ≡ demand_on l.grid l.width e;
  long : length l.demands ≡ max_layers;
  within : (layer : ℕ) → slice_index l.demands layer ≤ max_demand;
}
