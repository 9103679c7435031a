use Rattle.std.proofs.Common.{◌*◌, ◌≡◌, ap, sym, ◌∙◌, ⊎_elim, arith}
use Rattle.std.proofs.lemmas.Bool.{cases_eq}
use Rattle.grid_base.specs.declared.edge.Edge.{Edge as EdgeNumber}
use Rattle.grid_base.specs.Numbers.{cols, rows, layers, layer_of, edge_start}
use Rattle.grid_graph.specs.Grids.{size_of}
use Rattle.edge_prices.proofs.Layers.{first_of_layer, same_demand}
use Rattle.lower_bound.proofs.AlikeWidths.{edge_in_layer}
use Rattle.lower_bound.proofs.class_costs.use_as_much.Goals as goal

pub loop-layer-preserved : goal.loop-layer-preserved
loop-layer-preserved c e number below =
    let g = c.args.grid.now in
    let layer = c.loop-layer.layer in
    let per_layer : c.cols.result * c.rows.result ≡ cols (size_of g) * rows (size_of g) =
    (let s = c.size-size.ensures in let w = c.cols.ensures in let h = c.rows.ensures in cc) in
    let edge = c.along-edge.result.0 in
    let first : layer ≡ layer_of (size_of g) (edge_start edge) =
    first_of_layer (size_of g) layer edge (ap (λ (x : EdgeNumber). x.0) c.along-edge.ensures ∙ ap (λ n. 2 * (layer * n)) per_layer) in
    ⊎_elim
    (λ here.
    let as_first = sym first ∙ sym here in
    sym (same_demand g c.args.one edge e as_first) ∙ sym c.demand.ensures.value ∙ omega (arith, c.if-demand.false) ∙ c.demand-in-loop-layer.ensures.value
    ∙ same_demand g c.args.other edge e as_first)
    (λ other. c.loop-layer.invariant e number (omega (arith, below, other)))
    (cases_eq (layer_of (size_of g) (edge_start e)) layer)

pub demand-requires-in-loop-layer-clause-edge : goal.demand-requires-in-loop-layer-clause-edge
demand-requires-in-loop-layer-clause-edge c = edge_in_layer (size_of c.args.grid.now) c.loop-layer.layer c.along-edge.result.0
    (c.cols.result * c.rows.result) (let s = c.size-size.ensures in let w = c.cols.ensures in let h = c.rows.ensures in cc)
    (ap (λ (x : EdgeNumber). x.0) c.along-edge.ensures) (omega (arith, c.loop-layer-test.true, c.layers-layer-end.ensures, ap layers c.size-size.ensures))
