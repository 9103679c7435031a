use Rattle.std.proofs.Common.{◌≡◌, ◌++◌, map}
use Rattle.std.specs.List.{range_with_len}
use Rattle.straight_runs.specs.Runs.{run_piece}
use Rattle.straight_runs.proofs.listed.list_run.Given as goal

-- the pieces so far stand on the list
abbrev pub invariant-loop-i : goal.invariant-loop-i
invariant-loop-i l = l.pieces.items ≡ l.initial.pieces.items ++ map (run_piece l.fn.size l.run) (range_with_len 0 l.i)
