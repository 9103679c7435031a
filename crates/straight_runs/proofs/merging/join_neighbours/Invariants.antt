use Rattle.straight_runs.proofs.Merges.{IsMerging}
use Rattle.straight_runs.proofs.merging.join_neighbours.Given as goal

-- the runs so far are joined
abbrev pub invariant-loop-i : goal.invariant-loop-i
invariant-loop-i l = IsMerging l.size l.sorted l.i l.kept.items l.last
