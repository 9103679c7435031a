use Rattle.std.proofs.Common.{ℕ, ◌≤◌, ◌<◌, slice_index}
use Rattle.grid_graph.specs.Limits.{max_demand}
use Rattle.edge_prices.proofs.net_prices.NetPrices.least_demand.Given as goal

-- no layer before this one has a lower demand
abbrev pub invariant-loop-layer : goal.invariant-loop-layer
invariant-loop-layer l = record {
  below : (k : ℕ) → k < l.layer → l.least ≤ slice_index l.self.demands k;
  limit : l.least ≤ max_demand;
}
