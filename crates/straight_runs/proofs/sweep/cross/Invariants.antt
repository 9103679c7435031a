use Rattle.straight_runs.specs.Touching.{AreGroups}
use Rattle.straight_runs.proofs.sweep.cross.Given as goal

-- walks lead through the groups
abbrev pub invariant-loop : goal.invariant-loop
invariant-loop l = AreGroups l.size l.runs l.groups
