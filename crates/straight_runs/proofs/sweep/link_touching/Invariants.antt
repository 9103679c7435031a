use Rattle.straight_runs.specs.Touching.{AreGroups}
use Rattle.straight_runs.proofs.sweep.link_touching.Given as goal

-- walks lead through the groups
abbrev pub invariant-loop-layer : goal.invariant-loop-layer
invariant-loop-layer l = AreGroups l.size l.runs l.groups
