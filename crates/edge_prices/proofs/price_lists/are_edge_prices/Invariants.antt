use Rattle.std.proofs.Common.{ℕ, ◌≡◌, ◌<◌, ◌≤◌, length, slice_index}
use Rattle.grid_graph.specs.Grids.{capacity, edge_numbers}
use Rattle.edge_prices.specs.Limits.{max_price}
use Rattle.edge_prices.proofs.price_lists.are_edge_prices.Given as goal

-- the entries before this one are prices
abbrev pub invariant-loop-e : goal.invariant-loop-e
invariant-loop-e l = record {
  long : length l.prices ≡ edge_numbers l.grid;
  within : (k : ℕ) → k < l.e → slice_index l.prices k ≤ max_price;
  closed : (k : ℕ) → k < l.e → capacity l.grid k ≡ 0 → slice_index l.prices k ≡ 0;
}
