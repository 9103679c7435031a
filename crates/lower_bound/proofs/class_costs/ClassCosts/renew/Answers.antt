use Rattle.std.proofs.Common.{sym, subst}
use Rattle.grid_base.specs.declared.size.Size.{Size}
use Rattle.grid_graph.specs.Flat.{IsFlatOf}
use Rattle.edge_prices.specs.Costings.{costed_size, costed_pieces}
use Rattle.lower_bound.specs.Representatives.{AreRepresentatives}
use Rattle.lower_bound.specs.TileCosts.{costs_between}
use Rattle.lower_bound.proofs.AlikeWidths.{class_alike}
use Rattle.lower_bound.proofs.ClassBounds.{class_costs}
use Rattle.lower_bound.proofs.class_costs.ClassCosts.renew.Goals as goal

pub renew-requires-clause-flat : goal.renew-requires-clause-flat
renew-requires-clause-flat c = subst (IsFlatOf c.args.self.now.costs.size) (sym c.size.ensures) c.requires.current.costs.flat_of

pub returns-then-use_as_much-clause-current : goal.returns-then-use_as_much-clause-current
returns-then-use_as_much-clause-current c =
    let old = c.args.self.now in
    record {
      costs = class_alike old.grid.now old.width c.args.width old.ground old.prices.now old.costs.size (costs_between old.costs.costs.items)
          c.requires.width (c.use_as_much.ensures c.if-use_as_much.true) c.requires.current.costs;
      representatives = c.requires.current.representatives;
      kept = c.requires.current.kept;
      landmarks = c.requires.current.landmarks;
    }

pub returns-clause-current : goal.returns-clause-current
returns-clause-current c =
    let old = c.args.self.now in
    let costing = c.new-costing.result in
    let new = c.renew.new.self in
    let s = c.size.result in
    let across = costs_between new.costs.items in
    let flat : IsFlatOf new.size s = subst (λ (x : Size). IsFlatOf x s) (sym c.renew.ensures.size) (subst (IsFlatOf old.costs.size) (sym c.size.ensures) c.requires.current.costs.flat_of) in
    record {
      costs = class_costs old.grid.now c.args.width c.args.ground old.prices.now new.size s (costed_size costing) (costed_pieces costing) across flat c.size.ensures c.requires.width c.requires.current.costs.priced
          c.new-costing.ensures.size c.new-costing.ensures.list costing.listed c.renew.ensures.between;
      representatives = subst (λ (x : Size). AreRepresentatives x across c.renew-2.new.self.of.parents.items) c.size-2.ensures c.renew-2.ensures.leads;
      kept = c.forget.ensures new.size across;
      landmarks = c.reset.ensures;
    }
