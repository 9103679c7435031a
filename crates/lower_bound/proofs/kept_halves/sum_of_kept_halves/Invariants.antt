use Rattle.std.proofs.Common.{◌≡◌}
use Rattle.shortest_paths.specs.LabelWords.{labels_size, masks_of}
use Rattle.lower_bound.specs.HalfWords.{IsSumOfHalves}
use Rattle.least_weights.specs.KeptCosts.{AreKeptCosts}
use Rattle.lower_bound.proofs.kept_halves.sum_of_kept_halves.Given as goal

abbrev pub invariant-loop-place : goal.invariant-loop-place
invariant-loop-place g l = record {
  kept : AreKeptCosts (g.W.Weights.size l.weights) (g.W.Weights.pieces l.weights) l.kept.entries.items;
  size : labels_size l.labels ≡ labels_size l.initial.labels;
  masks : masks_of l.labels ≡ masks_of l.initial.labels;
  sums : IsSumOfHalves (g.W.Weights.size l.weights) (g.W.Weights.pieces l.weights) l.tiles l.place l.sum;
}
