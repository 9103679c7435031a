use Rattle.std.proofs.Common.{◌≡◌, ◌+◌, ◌*◌, false, sym, ap, subst, arith}
use Rattle.std.specs.Bool.{IsTrue}
use Rattle.grid_base.specs.Numbers.{layers}
use Rattle.grid_graph.specs.Flat.{tiles}
use Rattle.grid_graph.specs.Weighed.{Weighs, IsAllowed}
use Rattle.lower_bound.specs.TileCosts.{edge_on, IsLeastOn}
use Rattle.lower_bound.proofs.CostLists.{edge, least_on_none, least_on_past, least_on_more}
use Rattle.lower_bound.proofs.tile_costs.least_over.Goals as goal
use Rattle.lower_bound.proofs.tile_costs.least_over.Goals.{then-allows, else-allows}

pub loop-layer-init : goal.loop-layer-init
loop-layer-init g c = least_on_none c.args.size (g.W.Weights.pieces c.args.weights.now) c.args.e

pub loop-layer-preserved : goal.loop-layer-preserved
loop-layer-preserved g c =
    let s = c.args.size in
    let pieces = g.W.Weights.pieces c.args.weights.now in
    let e = c.args.e in
    let layer = c.loop-layer.layer in
    let old = c.loop-layer.least in
    let before = c.loop-layer.invariant in
    let place : layer * c.args.per_layer + e ≡ layer * (2 * tiles s) + e = ap (λ n. layer * n + e) c.requires.per_layer in
    elim c.if-allows.branch [
      | then-allows w ↦
          let allowed : IsAllowed pieces (edge_on s e layer) = subst (λ n. IsAllowed pieces (edge n)) place (c.allows.ensures.0 w.if-allows.true) in
          subst (IsLeastOn s pieces e (layer + 1)) (sym w.least-is)
          (least_on_more s pieces e layer old w.weight.result w.min-least.result before allowed
          (λ n weighs. w.weight.ensures.value n (subst (λ k. Weighs pieces (edge k) n) (sym place) weighs)) w.min-least.ensures)
      | else-allows w ↦
          subst (IsLeastOn s pieces e (layer + 1)) (sym w.least-is)
          (least_on_past s pieces e layer old before (λ allowed.
          let yes : IsTrue false = subst IsTrue w.if-allows.false (c.allows.ensures.1 (subst (λ n. IsAllowed pieces (edge n)) (sym place) allowed)) in cc))
    ]

pub returns : goal.returns
returns g c =
    let all : c.loop-layer.layer ≡ layers c.args.size = omega (arith, c.layers-layer-end.ensures) in
    subst (λ n. IsLeastOn c.args.size (g.W.Weights.pieces c.args.weights.now) c.args.e n c.loop-layer.least) all c.loop-layer.invariant
