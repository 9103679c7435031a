use Rattle.std.proofs.Common.{slice_index}
use Rattle.tree_set.specs.Fullest.{IsFullestBelow}
use Rattle.tree_set.proofs.peak.fullest_edge.Given as goal

abbrev pub invariant-loop-e : goal.invariant-loop-e
invariant-loop-e l = IsFullestBelow l.grid (slice_index l.loads) l.e l.fullest
