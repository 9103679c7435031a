use Rattle.std.proofs.Common.{ℕ, ◌≤◌, ◌<◌, slice_index}
use Rattle.grid_base.specs.declared.axis.Axis.{Axis}
use Rattle.grid_base.specs.Numbers.{edge_axis}
use Rattle.grid_graph.specs.Grids.{capacity}
use Rattle.edge_prices.specs.Floors.{least_along}
use Rattle.edge_prices.specs.Limits.{max_price}
use Rattle.edge_prices.proofs.least_of.least_prices_of.Given as goal

-- no open edge before this one has a lower price
abbrev pub invariant-loop-e : goal.invariant-loop-e
invariant-loop-e l = record {
  below : (k : ℕ) → k < l.e → 0 < capacity l.grid k → least_along l.least (edge_axis k) ≤ slice_index l.prices k;
  within : (axis : Axis) → least_along l.least axis ≤ max_price;
}
