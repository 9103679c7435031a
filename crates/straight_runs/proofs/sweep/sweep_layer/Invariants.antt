use Rattle.straight_runs.specs.Touching.{AreGroups}
use Rattle.straight_runs.proofs.sweep.sweep_layer.Given as goal

-- walks lead through the groups
abbrev pub invariant-loop-stack : goal.invariant-loop-stack
invariant-loop-stack l = AreGroups l.size l.runs l.groups
