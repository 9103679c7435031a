use Rattle.std.proofs.Common.{◌+◌, ◌-◌, ◌≡◌, ◌*◌, ◌≤◌, ◌<◌}
use Rattle.grid_base.specs.Numbers.{vertices}
use Rattle.grid_graph.specs.Grids.{size_of}
use Rattle.edge_prices.proofs.net_prices.NetPrices.layer_of.Given as goal

-- the vertex is not below this layer, which ends here
abbrev pub invariant-loop-end : goal.invariant-loop-end
invariant-loop-end l = record {
  ends : l.end ≡ l.layer * l.self.per_layer + l.self.per_layer;
  from : l.layer * l.self.per_layer ≤ l.v.0;
  vertex : l.v.0 < vertices (size_of l.self.grid.now);
}

abbrev pub decreases-loop-end : goal.decreases-loop-end
decreases-loop-end l = l.v.0 + 1 - l.end
