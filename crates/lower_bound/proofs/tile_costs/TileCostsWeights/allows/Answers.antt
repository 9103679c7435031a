use Rattle.std.proofs.Common.{slice_index, sym, subst}
use Rattle.grid_base.specs.declared.piece.Piece.{Piece}
use Rattle.grid_graph.specs.Weighed.{IsAllowed, Weighs}
use Rattle.lower_bound.specs.TileCosts.{costs_between}
use Rattle.lower_bound.proofs.CostLists.{has_cost, cost_is, no_via}
use Rattle.lower_bound.proofs.tile_costs.TileCostsWeights.allows.Goals as goal

pub returns-in-Edge : goal.returns-in-Edge
returns-in-Edge c =
    let costs = c.args.self.now.costs.items in
    let e = c.in-Edge.e.0 in (
      (λ is. let has = c.has_cost.ensures.0 is in subst (IsAllowed (costs_between costs)) (sym c.in-Edge.is) (slice_index costs e, has_cost costs e has.0 has.1)),
      λ allowed. let is = cost_is costs e allowed.0 (subst (λ (p : Piece). Weighs (costs_between costs) p allowed.0) c.in-Edge.is allowed.1) in c.has_cost.ensures.1 (is.0, is.1),
    )

pub returns-in-Via : goal.returns-in-Via
returns-in-Via c =
    let costs = c.args.self.now.costs.items in (
      (λ none. absurd (cc none)),
      λ allowed. absurd (no_via costs c.in-Via.field-0 allowed.0 (subst (λ (p : Piece). Weighs (costs_between costs) p allowed.0) c.in-Via.is allowed.1)),
    )
