use Rattle.std.proofs.Common.{ℕ, ◌≡◌, ◌<◌, ◌≤◌, min, length, slice_index}
use Rattle.grid_graph.specs.Flat.{tile_edge_of}
use Rattle.grid_graph.specs.Grids as grids
use Rattle.edge_prices.specs.Limits.{max_price}
use Rattle.hot_cuts.proofs.pricing.price_list.Given as goal

-- the prices of the edges before this one
abbrev pub invariant-loop-e : goal.invariant-loop-e
invariant-loop-e l = record {
  long : length l.prices.items ≡ l.e;
  within : (k : ℕ) → k < l.e → slice_index l.prices.items k ≤ max_price;
  closed : (k : ℕ) → k < l.e → grids.capacity l.grid k ≡ 0 → slice_index l.prices.items k ≡ 0;
  priced : (k : ℕ) → k < l.e → 0 < grids.capacity l.grid k
      → slice_index l.prices.items k ≡ min (slice_index l.tile_prices (tile_edge_of (grids.size_of l.grid) k)) max_price;
}
