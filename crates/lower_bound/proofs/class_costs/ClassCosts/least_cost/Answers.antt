use Rattle.std.proofs.Common.{arith}
use Rattle.lower_bound.proofs.ClassBounds.{stand_once}
use Rattle.lower_bound.proofs.class_costs.ClassCosts.least_cost.Goals as goal

pub kept_least-cost-requires-clause-few : goal.kept_least-cost-requires-clause-few
kept_least-cost-requires-clause-few c =
    omega (
      arith,
      (stand_once c.args.self.now c.requires.current c.args.terminals.now c.requires.vertices c.in_ok-represented.field-0.items
          c.distinct-tiles.result.items _ c.in_ok-represented.ensures c.distinct-tiles.ensures.same c.distinct-tiles.ensures.fewer
          c.as_slice.ensures.value).few,
      c.requires.few,
    )

pub kept_least-cost-requires-clause-vertices : goal.kept_least-cost-requires-clause-vertices
kept_least-cost-requires-clause-vertices c =
    (stand_once c.args.self.now c.requires.current c.args.terminals.now c.requires.vertices c.in_ok-represented.field-0.items
    c.distinct-tiles.result.items _ c.in_ok-represented.ensures c.distinct-tiles.ensures.same c.distinct-tiles.ensures.fewer
    c.as_slice.ensures.value).vertices

pub kept_least-cost-requires-clause-joined : goal.kept_least-cost-requires-clause-joined
kept_least-cost-requires-clause-joined c =
    (stand_once c.args.self.now c.requires.current c.args.terminals.now c.requires.vertices c.in_ok-represented.field-0.items
    c.distinct-tiles.result.items _ c.in_ok-represented.ensures c.distinct-tiles.ensures.same c.distinct-tiles.ensures.fewer
    c.as_slice.ensures.value).joined c.requires.joined

pub returns-clause-least : goal.returns-clause-least
returns-clause-least c =
    (stand_once c.args.self.now c.requires.current c.args.terminals.now c.requires.vertices c.in_ok-represented.field-0.items
    c.distinct-tiles.result.items _ c.in_ok-represented.ensures c.distinct-tiles.ensures.same c.distinct-tiles.ensures.fewer
    c.as_slice.ensures.value).least c.kept_least-cost.result c.kept_least-cost.ensures.least

pub lead-requires-clause-current : goal.lead-requires-clause-current
lead-requires-clause-current c = record {
  costs = c.requires.current.costs;
  representatives = c.requires.current.representatives;
  kept = c.kept_least-cost.ensures.kept;
  landmarks = c.requires.current.landmarks;
}

pub returns-clause-class : goal.returns-clause-class
returns-clause-class c =
    let led = c.lead.ensures.class in
    record { grid = led.grid; prices = led.prices; width = led.width; ground = led.ground; costs = led.costs; representatives = led.representatives }
