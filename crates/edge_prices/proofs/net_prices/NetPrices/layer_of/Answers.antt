use Rattle.std.proofs.Common.{◌+◌, ◌*◌, ◌≤◌, ◌<◌, arith}
use Rattle.grid_base.specs.Numbers.{cols, rows}
use Rattle.grid_graph.specs.Grids.{size_of}
use Rattle.edge_prices.proofs.Layers.{layer_of-within}
use Rattle.edge_prices.proofs.net_prices.NetPrices.layer_of.Goals as goal

pub returns : goal.returns
returns c =
    let s = size_of c.args.self.now.grid.now in
    let size = c.args.self.now.known.layer_count in
    let from : c.loop-end.layer * (cols s * rows s) ≤ c.args.v.0 = rw (← size) c.loop-end.invariant.from in
    let below : c.args.v.0 < (c.loop-end.layer + 1) * (cols s * rows s) = rw (← size) (omega (arith, c.loop-end.invariant.ends)) in
    layer_of-within s c.args.v.0 c.loop-end.layer from below
