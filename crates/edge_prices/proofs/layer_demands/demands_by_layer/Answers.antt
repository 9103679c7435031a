use Rattle.std.proofs.Common.{◌*◌, ◌≡◌, ◌<◌, length, ap, sym, ◌∙◌, inl, inr, arith, get_or-set_other, length-set}
use Rattle.std.proofs.lemmas.Bool.{cases_eq}
use Rattle.std.proofs.lemmas.Grind.{get_or-set_at}
use Rattle.grid_base.specs.declared.edge.Edge.{Edge as EdgeNumber}
use Rattle.grid_base.specs.Numbers.{cols, rows, layers, layer_of, edge_start}
use Rattle.grid_graph.specs.Grids.{size_of}
use Rattle.edge_prices.proofs.Entries.{set_within}
use Rattle.edge_prices.proofs.Layers.{first_of_layer, layer-below, same_demand}
use Rattle.edge_prices.proofs.layer_demands.demands_by_layer.Goals as goal

pub loop-layer-preserved : goal.loop-layer-preserved
loop-layer-preserved c =
    let g = c.args.grid.now in
    let layer = c.loop-layer.layer in
    let per_layer : c.cols.result * c.rows.result ≡ cols (size_of g) * rows (size_of g) =
    (let e = c.size-size.ensures in let w = c.cols.ensures in let h = c.rows.ensures in cc) in
    let first : layer ≡ layer_of (size_of g) (edge_start c.along.result.0) =
    first_of_layer (size_of g) layer c.along.result.0 (ap (λ (e : EdgeNumber). e.0) c.along.ensures ∙ ap (λ n. 2 * (layer * n)) per_layer) in
    let inside : layer < length c.loop-layer.demands = omega (arith, (size_of g).within.layer_limit, c.layers-layer-end.ensures, ap layers c.size-size.ensures) in
    record {
      value = λ e number below. elim (cases_eq (layer_of (size_of g) (edge_start e)) layer) [
        | inl here ↦ get_or-set_at c.loop-layer.demands layer _ c.demand.result 0 here inside ∙ (c.demand.ensures.value ∙ same_demand g c.args.width c.along.result.0 e (sym first ∙ sym here))
        | inr other ↦ rw get_or-set_other (c.loop-layer.invariant.value e number (omega arith))
      ];
      long = length-set c.loop-layer.demands layer c.demand.result ∙ c.loop-layer.invariant.long;
      within = set_within c.loop-layer.demands layer c.demand.result _ c.loop-layer.invariant.within c.demand.ensures.limit;
    }

pub returns : goal.returns
returns c =
    let limit : c.layers-layer-end.result ≡ layers (size_of c.args.grid.now) = c.layers-layer-end.ensures ∙ ap layers c.size-size.ensures in
    record {
      value = λ e number. c.loop-layer.invariant.value e number (omega (arith, layer-below c.args.grid.now e number));
      within = c.loop-layer.invariant.within;
    }
