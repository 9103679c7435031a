use Rattle.std.proofs.Common.{◌≡◌, map, take}
use Rattle.straight_runs.specs.Lines.{line_number}
use Rattle.straight_runs.proofs.lookup.numbers_of.Given as goal

-- the numbers of the runs so far
abbrev pub invariant-loop-run : goal.invariant-loop-run
invariant-loop-run l = l.numbers.items ≡ map (λ run. line_number l.size run.direction run.first.0) (take l.run-index l.runs)
