use Rattle.std.proofs.Common.{◌≡◌, ◌<◌, ◌≤◌, ◌-◌}
use Rattle.shortest_paths.specs.LabelWords.{labels_size, masks_of, label_of}
use Rattle.label_search.specs.Stamped.{most}
use Rattle.steiner_exact.specs.Roots.{IsAttempt}
use Rattle.steiner_exact.proofs.root_search.least_at_root.Given as goal

-- what was found under the present limit
abbrev pub invariant-loop-found : goal.invariant-loop-found
invariant-loop-found g l = record {
  found : IsAttempt (g.W.Weights.size l.weights) (g.W.Weights.pieces l.weights) l.terminals l.within (label_of l.labels) l.found;
  within : l.within ≤ most;
  some : 0 < l.more;
  more : l.more ≤ most;
  size : labels_size l.labels ≡ labels_size l.fn.labels;
  masks : masks_of l.labels ≡ masks_of l.fn.labels;
}

abbrev pub decreases-loop-found : goal.decreases-loop-found
decreases-loop-found g l = most - l.within
