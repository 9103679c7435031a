use Rattle.std.proofs.Common.{◌≤◌, arith}
use Rattle.net_search.specs.Going.{rest_at_prices}
use Rattle.net_search.specs.declared.goal.Goal.{Goal}
use Rattle.net_search.proofs.Least.{least_more, all_end}
use Rattle.net_search.proofs.bound.Bound.rest_at_prices.Goals as goal

pub loop-goal-preserved : goal.loop-goal-preserved
loop-goal-preserved c =
    least_more (λ (goal : Goal). rest_at_prices goal c.args.site.now c.args.from_landmark c.args.self.now.demand) c.args.goals.now c.loop-goal.goal-index _ c.loop-goal.least c.min-least.result _
    c.loop-goal-test.true c.rest_at_prices.ensures c.min-least.ensures c.loop-goal.invariant

pub returns : goal.returns
returns c =
    let So : Goal → Type 0 = λ goal. c.loop-goal.least ≤ rest_at_prices goal c.args.site.now c.args.from_landmark c.args.self.now.demand in
    all_end So c.args.goals.now c.loop-goal.goal-index (omega (arith, c.loop-goal-test.false)) c.loop-goal.invariant
