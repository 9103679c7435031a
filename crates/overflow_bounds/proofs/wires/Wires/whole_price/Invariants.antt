use Rattle.std.proofs.Common.{◌*◌, ◌<◌, ◌≤◌, ℕ, slice_index}
use Rattle.edge_prices.specs.Limits.{max_price}
use Rattle.grid_graph.specs.Limits.{max_demand}
use Rattle.overflow_bounds.proofs.wires.Wires.whole_price.Given as goal

-- of the edges so far
abbrev pub invariant-loop-e : goal.invariant-loop-e
invariant-loop-e l = record {
  prices : (e : ℕ) → e < l.e → slice_index l.self.prices.now e ≤ l.most;
  limit : l.most ≤ max_price * max_demand;
}
