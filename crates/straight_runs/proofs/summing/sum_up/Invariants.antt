use Rattle.straight_runs.proofs.Sums.{IsSumming}
use Rattle.straight_runs.proofs.summing.sum_up.Given as goal

-- the loads up to here
abbrev pub invariant-loop-e : goal.invariant-loop-e
invariant-loop-e l = IsSumming l.size l.initial.table l.e l.table
