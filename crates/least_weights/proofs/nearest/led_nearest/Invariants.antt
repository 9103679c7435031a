use Rattle.std.proofs.Common.{◌-◌, ◌<◌, ◌≤◌}
use Rattle.label_search.specs.Stamped.{most}
use Rattle.steiner_exact.specs.TreeLabelWords.{AreTreeLabels}
use Rattle.least_weights.specs.NearestWithin.{IsNearestWithin}
use Rattle.least_weights.proofs.nearest.led_nearest.Given as goal

abbrev pub invariant-loop-found : goal.invariant-loop-found
invariant-loop-found g l = record {
  labels : AreTreeLabels (g.W.Weights.size l.weights) l.labels;
  limit : l.limit ≤ most;
  some : 0 < l.slack;
  small : l.slack ≤ most;
  nearest : IsNearestWithin (g.W.Weights.size l.weights) (g.W.Weights.pieces l.weights) l.terminals l.here.0 l.limit l.found;
}

abbrev pub decreases-loop-found : goal.decreases-loop-found
decreases-loop-found g l = most - l.limit
