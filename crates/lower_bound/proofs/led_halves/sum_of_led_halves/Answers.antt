use Rattle.std.proofs.Common.{arith}
use Rattle.lower_bound.proofs.HalvesOf.{one_half_more}
use Rattle.lower_bound.proofs.led_halves.sum_of_led_halves.Goals as goal

pub loop-place-preserved : goal.loop-place-preserved
loop-place-preserved g c = record {
  labels = c.in_ok-half.ensures.labels;
  sums = one_half_more (g.W.Weights.size c.args.weights.now) (g.W.Weights.pieces c.args.weights.now) c.args.terminals.now c.loop-place.place
      c.loop-place.sum c.in_ok-half.half c.saturating_add-sum.result
      c.loop-place.invariant.sums c.in_ok-half.ensures.half (omega (arith, c.saturating_add-sum.ensures));
}
