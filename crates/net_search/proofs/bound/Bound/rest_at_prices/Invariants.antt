use Rattle.std.proofs.Common.{◌≤◌, take}
use Rattle.std.specs.List.{All}
use Rattle.net_search.specs.Going.{rest_at_prices}
use Rattle.net_search.proofs.bound.Bound.rest_at_prices.Given as goal

abbrev pub invariant-loop-goal : goal.invariant-loop-goal
invariant-loop-goal l = All (λ goal. l.least ≤ rest_at_prices goal l.site l.from_landmark l.self.demand) (take l.goal-index l.goals)
