use Rattle.std.proofs.Common.{◌≡◌}
use Rattle.shortest_paths.specs.LabelWords.{labels_size, masks_of}
use Rattle.least_weights.specs.KeptCosts.{AreKeptCosts}
use Rattle.lower_bound.proofs.NearestPairs.{IsNearestSoFar}
use Rattle.lower_bound.proofs.kept_halves.kept_half.Given as goal

abbrev pub invariant-loop-other : goal.invariant-loop-other
invariant-loop-other g l = record {
  kept : AreKeptCosts (g.W.Weights.size l.weights) (g.W.Weights.pieces l.weights) l.kept.entries.items;
  size : labels_size l.labels ≡ labels_size l.fn.labels;
  masks : masks_of l.labels ≡ masks_of l.fn.labels;
  nearest : IsNearestSoFar (g.W.Weights.size l.weights) (g.W.Weights.pieces l.weights) l.tiles l.place l.other l.least;
}
