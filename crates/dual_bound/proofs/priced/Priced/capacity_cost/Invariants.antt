use Rattle.std.proofs.Common.{◌≡◌, ◌≤◌, ◌+◌, ◌*◌, slice_index, unwrap_or}
use Rattle.std.specs.List.{sum_by, range_with_len}
use Rattle.grid_graph.specs.Grids.{capacity}
use Rattle.edge_prices.specs.Budgets.{most_of, price_per_piece}
use Rattle.dual_bound.specs.Limits.{max_edge_cost, max_wirelength_cost}
use Rattle.dual_bound.proofs.priced.Priced.capacity_cost.Given as goal

-- what the wirelength's capacity costs and those of the edges so far
abbrev pub invariant-loop-e : goal.invariant-loop-e
invariant-loop-e l = record {
  total : l.total ≡ price_per_piece l.self.budget * unwrap_or (most_of l.self.budget) 0
      + sum_by (λ r. slice_index l.self.prices.now r * capacity l.self.design.now.grid r) (range_with_len 0 l.e);
  small : l.total ≤ max_wirelength_cost + l.e * max_edge_cost;
}
