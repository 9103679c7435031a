use Rattle.std.proofs.Common.{◌≤◌, arith}
use Rattle.net_search.specs.Going.{rest_to}
use Rattle.net_search.specs.declared.goal.Goal.{Goal}
use Rattle.net_search.proofs.Least.{least_more, all_end}
use Rattle.net_search.proofs.bound.rest_without_prices.Goals as goal

pub loop-goal-preserved : goal.loop-goal-preserved
loop-goal-preserved c =
    least_more (λ (goal : Goal). rest_to goal c.args.site.now) c.args.goals.now c.loop-goal.goal-index _ c.loop-goal.least c.min-least.result _
    c.loop-goal-test.true c.rest.ensures c.min-least.ensures c.loop-goal.invariant

pub returns : goal.returns
returns c =
    let So : Goal → Type 0 = λ goal. c.loop-goal.least ≤ rest_to goal c.args.site.now in
    all_end So c.args.goals.now c.loop-goal.goal-index (omega (arith, c.loop-goal-test.false)) c.loop-goal.invariant
