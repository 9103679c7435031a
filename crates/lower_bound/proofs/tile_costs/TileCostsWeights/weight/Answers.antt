use Rattle.std.proofs.Common.{subst, arith}
use Rattle.grid_base.specs.declared.piece.Piece.{Piece}
use Rattle.grid_graph.specs.Weighed.{Weighs}
use Rattle.lower_bound.specs.TileCosts.{costs_between}
use Rattle.lower_bound.proofs.CostLists.{cost_is, no_via}
use Rattle.lower_bound.proofs.tile_costs.TileCostsWeights.weight.Goals as goal

pub returns-in-Edge-clause-value : goal.returns-in-Edge-clause-value
returns-in-Edge-clause-value c n weighs =
    let costs = c.args.self.now.costs.items in
    let is = cost_is costs c.in-Edge.e.0 n (subst (λ (p : Piece). Weighs (costs_between costs) p n) c.in-Edge.is weighs) in
    omega (arith, c.cost.ensures.value is.0, is.1, is.2)

pub returns-in-Via-clause-value : goal.returns-in-Via-clause-value
returns-in-Via-clause-value c n weighs =
    let costs = c.args.self.now.costs.items in
    absurd (no_via costs c.in-Via.field-0 n (subst (λ (p : Piece). Weighs (costs_between costs) p n) c.in-Via.is weighs))
