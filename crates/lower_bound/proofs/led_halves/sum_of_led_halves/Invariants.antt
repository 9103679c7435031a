use Rattle.steiner_exact.specs.TreeLabelWords.{AreTreeLabels}
use Rattle.lower_bound.specs.HalfWords.{IsSumOfHalves}
use Rattle.lower_bound.proofs.led_halves.sum_of_led_halves.Given as goal

abbrev pub invariant-loop-place : goal.invariant-loop-place
invariant-loop-place g l = record {
  labels : AreTreeLabels (g.W.Weights.size l.weights) l.labels;
  sums : IsSumOfHalves (g.W.Weights.size l.weights) (g.W.Weights.pieces l.weights) l.terminals l.place l.sum;
}
