use Rattle.std.proofs.Common.{◌≡◌, slice_index, min, ap, ◌∙◌, inl, inr, arith, rules}
use Rattle.std.proofs.lemmas.Bool.{cases_eq}
use Rattle.grid_base.specs.Numbers.{layers, layer_of, edge_start}
use Rattle.grid_graph.specs.Grids.{size_of}
use Rattle.edge_prices.proofs.Layers.{layer-below}
use Rattle.edge_prices.proofs.net_prices.NetPrices.least_demand.Goals as goal

pub loop-layer-preserved : goal.loop-layer-preserved
loop-layer-preserved c =
    let lesser : c.min-least.result ≡ min c.loop-layer.least (slice_index c.args.self.now.demands c.loop-layer.layer) = search rules in
    record {
      below = λ k before. elim (cases_eq k c.loop-layer.layer) [
        | inl here ↦ omega (arith, ap (λ n. slice_index c.args.self.now.demands n) here)
        | inr other ↦ omega (arith, c.loop-layer.invariant.below k (omega arith))
      ];
      limit = omega arith;
    }

pub returns-clause-below : goal.returns-clause-below
returns-clause-below c e number =
    let net = c.args.self.now in
    let layer = layer_of (size_of net.grid.now) (edge_start e) in
    let limit : c.layers-layer-end.result ≡ layers (size_of net.grid.now) = c.layers-layer-end.ensures ∙ ap layers c.size.ensures in
    let inside = layer-below net.grid.now e number in
    omega (arith, c.loop-layer.invariant.below layer (omega arith), net.known.used.value e number)
