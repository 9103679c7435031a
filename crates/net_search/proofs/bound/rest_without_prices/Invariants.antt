use Rattle.std.proofs.Common.{◌≤◌, take}
use Rattle.std.specs.List.{All}
use Rattle.net_search.specs.Going.{rest_to}
use Rattle.net_search.proofs.bound.rest_without_prices.Given as goal

abbrev pub invariant-loop-goal : goal.invariant-loop-goal
invariant-loop-goal l = All (λ goal. l.least ≤ rest_to goal l.site) (take l.goal-index l.goals)
