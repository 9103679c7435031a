use Rattle.command_runs.proofs.Feeding.{IsFedSoFar}
use Rattle.command_runs.proofs.design_source.fed_reader.Given as goal

abbrev pub invariant-loop-left : goal.invariant-loop-left
invariant-loop-left g l = IsFedSoFar (g.D.Desk.told l.initial.desk) (g.D.Desk.told l.desk) l.reader l.left

abbrev pub decreases-loop-left : goal.decreases-loop-left
decreases-loop-left g l = l.left
