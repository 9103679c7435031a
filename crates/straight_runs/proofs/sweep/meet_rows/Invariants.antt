use Rattle.straight_runs.specs.Touching.{AreGroups}
use Rattle.straight_runs.proofs.sweep.meet_rows.Given as goal

-- walks lead through the groups
abbrev pub invariant-loop-i : goal.invariant-loop-i
invariant-loop-i l = AreGroups l.size l.runs l.groups
