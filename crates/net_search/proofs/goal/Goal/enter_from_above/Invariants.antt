use Rattle.net_search.specs.Going.{IsSameGoal}
use Rattle.net_search.proofs.goal.Goal.enter_from_above.Given as goal

abbrev pub invariant-loop : goal.invariant-loop
invariant-loop l = IsSameGoal l.initial.self l.self
