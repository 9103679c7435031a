use Rattle.std.proofs.Common.{slice_range}
use Rattle.steiner_exact.specs.TreeLabelWords.{AreTreeLabels}
use Rattle.grid_graph.specs.Grids.{size_of}
use Rattle.bound_climb.specs.ClimbTurns.{AreStepsSeen, seen_nets}
use Rattle.bound_climb.proofs.climb_turn.steps_of_part.Given as goal

-- the nets so far have steps
abbrev pub invariant-loop-net : goal.invariant-loop-net
invariant-loop-net l = record {
  steps : AreStepsSeen l.sight (slice_range (seen_nets l.sight) l.from l.net) l.trees.items;
  labels : AreTreeLabels (size_of l.sight.design.now.grid) l.labels;
}
