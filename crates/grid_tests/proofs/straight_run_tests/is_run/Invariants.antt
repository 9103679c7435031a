use Rattle.std.proofs.Common.{◌<◌, ℕ}
use Rattle.grid_base.specs.Numbers.{IsPiece}
use Rattle.straight_runs.specs.Runs.{run_piece}
use Rattle.grid_tests.proofs.straight_run_tests.is_run.Given as goal

-- those so far are pieces
abbrev pub invariant-loop-i : goal.invariant-loop-i
invariant-loop-i l = (k : ℕ) → k < l.i → IsPiece l.size (run_piece l.size l.run k)
