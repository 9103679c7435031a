use Rattle.std.proofs.Common.{◌≡◌, map, take}
use Rattle.straight_runs.specs.Runs.{numbered}
use Rattle.straight_runs.proofs.merging.numbered_runs.Given as goal

-- the runs so far stand beside their numbers
abbrev pub invariant-loop-run : goal.invariant-loop-run
invariant-loop-run l = l.pairs.items ≡ map (numbered l.size) (take l.run-index l.runs)
