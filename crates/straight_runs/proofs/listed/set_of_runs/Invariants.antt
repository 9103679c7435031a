use Rattle.std.proofs.Common.{◌≡◌, take}
use Rattle.straight_runs.specs.Runs.{pieces_of}
use Rattle.straight_runs.proofs.listed.set_of_runs.Given as goal

-- the pieces of the runs so far stand on the list
abbrev pub invariant-loop-run : goal.invariant-loop-run
invariant-loop-run l = l.pieces.items ≡ pieces_of l.size (take l.run-index l.runs)
