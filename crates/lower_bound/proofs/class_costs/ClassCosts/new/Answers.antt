use Rattle.std.proofs.Common.{[], sym, ◌∙◌, ap, subst}
use Rattle.grid_base.specs.Numbers.{vertices}
use Rattle.grid_base.specs.declared.size.Size.{Size}
use Rattle.grid_graph.specs.Flat.{IsFlatOf}
use Rattle.edge_prices.specs.Costings.{costed_size, costed_pieces}
use Rattle.lower_bound.specs.Representatives.{AreRepresentatives}
use Rattle.lower_bound.specs.TileCosts.{costs_between}
use Rattle.lower_bound.proofs.ClassBounds.{class_costs}
use Rattle.lower_bound.proofs.class_costs.ClassCosts.new.Goals as goal

pub reset-requires : goal.reset-requires
reset-requires c = record { long = (c.in_ok-landmarks.ensures []).long ∙ ap vertices (c.size-3.ensures ∙ sym c.renew.ensures.size) }

pub returns-clause-current : goal.returns-clause-current
returns-clause-current c =
    let costing = c.new-costing.result in
    let new = c.renew.new.self in
    let s = c.size-4.result in
    let across = costs_between new.costs.items in
    let flat : IsFlatOf new.size s = subst (λ (x : Size). IsFlatOf x s) (sym c.renew.ensures.size) (subst (IsFlatOf c.in_ok-costs.costs.size) (c.size.ensures ∙ sym c.size-4.ensures) c.in_ok-costs.ensures) in
    record {
      costs = class_costs c.args.grid.now c.args.width c.args.ground c.args.prices.now new.size s (costed_size costing) (costed_pieces costing) across flat c.size-4.ensures c.requires.width c.requires.prices
          c.new-costing.ensures.size c.new-costing.ensures.list costing.listed c.renew.ensures.between;
      representatives = subst (λ (x : Size). AreRepresentatives x across c.renew-2.new.self.of.parents.items) c.size-5.ensures c.renew-2.ensures.leads;
      kept = c.forget.ensures new.size across;
      landmarks = c.reset.ensures;
    }
