use Rattle.std.proofs.Common.{◌∙◌, arith}
use Rattle.lower_bound.proofs.HalvesOf.{one_half_more}
use Rattle.lower_bound.proofs.kept_halves.sum_of_kept_halves.Goals as goal

pub loop-place-preserved : goal.loop-place-preserved
loop-place-preserved g c = record {
  kept = c.kept_half.ensures.kept;
  size = c.kept_half.ensures.size ∙ c.loop-place.invariant.size;
  masks = c.kept_half.ensures.masks ∙ c.loop-place.invariant.masks;
  sums = one_half_more (g.W.Weights.size c.args.weights.now) (g.W.Weights.pieces c.args.weights.now) c.args.tiles.now c.loop-place.place c.loop-place.sum c.kept_half.result c.saturating_add-sum.result
      c.loop-place.invariant.sums c.kept_half.ensures.half (omega (arith, c.saturating_add-sum.ensures));
}
