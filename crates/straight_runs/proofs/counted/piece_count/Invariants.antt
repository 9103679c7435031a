use Rattle.std.proofs.Common.{◌≡◌, length, take}
use Rattle.straight_runs.specs.Runs.{pieces_of}
use Rattle.straight_runs.proofs.counted.piece_count.Given as goal

-- the pieces so far
abbrev pub invariant-loop-run : goal.invariant-loop-run
invariant-loop-run l = l.count ≡ length (pieces_of l.fn.size (take l.run-index l.runs))
