use Rattle.std.proofs.Common.{◌≡◌, slice_range}
use Rattle.sharing_runs.specs.RepairRuns.{at_positions}
use Rattle.routing_passes.proofs.old_sets.copies.Given as goal

-- the sets so far are copied
abbrev pub invariant-loop-i : goal.invariant-loop-i
invariant-loop-i l = l.sets.items ≡ slice_range (at_positions l.trees l.positions) l.from l.i
