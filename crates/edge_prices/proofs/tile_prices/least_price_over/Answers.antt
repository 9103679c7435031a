use Rattle.std.proofs.Common.{◌≡◌, ℕ, ◌+◌, ◌*◌, ◌<◌, sym, ap, ◌∙◌, arith}
use Rattle.grid_base.specs.Numbers.{layers}
use Rattle.grid_graph.specs.Grids.{size_of}
use Rattle.edge_prices.specs.TilePrices.{no_price, open_price, price_on}
use Rattle.edge_prices.proofs.Least.{least_none, least_step}
use Rattle.edge_prices.proofs.LeastOver.{number-on}
use Rattle.edge_prices.proofs.tile_prices.least_price_over.Goals as goal

pub loop-layer-init : goal.loop-layer-init
loop-layer-init c = sym (least_none no_price (price_on c.args.grid.now c.args.prices.now c.args.e))

pub price_of_open-requires-clause-edge : goal.price_of_open-requires-clause-edge
price_of_open-requires-clause-edge c =
    let s = size_of c.args.grid.now in
    let below : c.loop-layer.layer < layers s = omega (arith, c.loop-layer-test.true, c.layers-layer-end.ensures ∙ ap layers c.size.ensures) in
    rw c.tile_edges-per_layer.ensures.value (number-on s c.loop-layer.layer c.args.e below c.requires.edge)

pub loop-layer-preserved : goal.loop-layer-preserved
loop-layer-preserved c =
    let g = c.args.grid.now in
    let f = price_on g c.args.prices.now c.args.e in
    let here : c.price_of_open.result ≡ f c.loop-layer.layer =
    c.price_of_open.ensures ∙ ap (λ (n : ℕ). open_price g c.args.prices.now (c.loop-layer.layer * n + c.args.e)) c.tile_edges-per_layer.ensures.value in
    least_step no_price f c.loop-layer.layer c.loop-layer.least c.price_of_open.result c.min-least.result c.loop-layer.invariant here c.min-least.ensures
