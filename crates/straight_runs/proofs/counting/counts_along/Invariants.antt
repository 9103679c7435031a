use Rattle.straight_runs.proofs.Counts.{IsCounting}
use Rattle.straight_runs.proofs.counting.counts_along.Given as goal

-- the counts up to here
abbrev pub invariant-loop-v : goal.invariant-loop-v
invariant-loop-v l = IsCounting l.grid l.kind l.direction l.v l.counts.items
