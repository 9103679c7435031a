use Rattle.std.proofs.Common.{◌≡◌}
use Rattle.shortest_paths.specs.LabelWords.{labels_size, masks_of}
use Rattle.lower_bound.specs.HalfWords.{IsSumOfHalves}
use Rattle.lower_bound.proofs.halves.sum_of_halves.Given as goal

abbrev pub invariant-loop-place : goal.invariant-loop-place
invariant-loop-place g l = record {
  size : labels_size l.labels ≡ labels_size l.initial.labels;
  masks : masks_of l.labels ≡ masks_of l.initial.labels;
  sums : IsSumOfHalves (g.W.Weights.size l.weights) (g.W.Weights.pieces l.weights) l.terminals l.place l.sum;
}
