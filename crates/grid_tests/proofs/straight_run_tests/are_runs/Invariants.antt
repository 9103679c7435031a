use Rattle.std.proofs.Common.{◌<◌, ℕ, get_or}
use Rattle.straight_runs.specs.declared.run.Run.{Run}
use Rattle.straight_runs.specs.Runs.{IsStraightRun}
use Rattle.grid_tests.proofs.straight_run_tests.are_runs.Given as goal

-- those so far are runs
abbrev pub invariant-loop-run : goal.invariant-loop-run
invariant-loop-run l = (k : ℕ) (d : Run) → k < l.run-index → IsStraightRun l.size (get_or l.runs k d)
