use Rattle.std.proofs.Common.{◌≡◌, map, take}
use Rattle.straight_runs.proofs.merging.runs_of.Given as goal

-- the runs of the pairs so far
abbrev pub invariant-loop-pair : goal.invariant-loop-pair
invariant-loop-pair l = l.runs.items ≡ map (λ pair. pair.1) (take l.pair-index l.pairs)
