use Rattle.std.proofs.Common.{slice_index, arith, refl}
use Rattle.steiner_tables.proofs.Masks.{bit-small}
use Rattle.terminal_balls.specs.Balls.{radii_sum}
use Rattle.terminal_balls.proofs.MaskSums.{sum_more}
use Rattle.terminal_balls.proofs.sums.sum_of.Goals as goal
use Rattle.terminal_balls.proofs.sums.sum_of.Goals.{then-mask-place-eq1, else-mask-place-eq1}

pub loop-place-init : goal.loop-place-init
unfolding radii_sum
loop-place-init c = record { sum = refl; small = omega arith }

pub loop-place-preserved : goal.loop-place-preserved
loop-place-preserved c =
    let place = c.loop-place.place in
    let radius = slice_index c.args.radii.now in
    let more = sum_more radius c.args.mask place c.loop-place.sum c.loop-place.invariant.sum in
    let small = c.requires place in
    elim c.if-mask-place-eq1.branch [
      | then-mask-place-eq1 w ↦ rw w.sum-is (record {
        sum = more.0 w.if-mask-place-eq1.true;
        small = omega (arith, small, c.loop-place.invariant.small);
      })
      | else-mask-place-eq1 w ↦ rw w.sum-is (record {
        sum = more.1 (omega (arith, bit-small c.args.mask place, w.if-mask-place-eq1.false));
        small = omega (arith, c.loop-place.invariant.small);
      })
    ]
