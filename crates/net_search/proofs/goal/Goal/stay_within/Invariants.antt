use Rattle.net_search.specs.Going.{IsSameGoal}
use Rattle.net_search.proofs.goal.Goal.stay_within.Given as goal

abbrev pub invariant-loop-from : goal.invariant-loop-from
invariant-loop-from l = IsSameGoal l.initial.self l.self
