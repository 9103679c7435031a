use Rattle.std.proofs.Common.{◌+◌, arith}
use Rattle.text_scan.proofs.Digits.{digit_in, value_more, value_front}
use Rattle.text_scan.proofs.magnitude.short.Goals as goal

pub overflow_mul-value : goal.overflow_mul-value
overflow_mul-value c =
    let ds = c.args.digits.now in
    omega (arith, c.loop-d.invariant, value_more ds c.loop-d.d-index c.requires.digits c.loop-d-test.true, value_front ds (c.loop-d.d-index + 1) 19 c.requires.digits c.requires.few)

pub overflow_sub-d : goal.overflow_sub-d
overflow_sub-d c = (digit_in c.args.digits.now c.loop-d.d-index c.requires.digits c.loop-d-test.true).0

pub overflow_add-value : goal.overflow_add-value
overflow_add-value c =
    let ds = c.args.digits.now in
    omega (arith, c.loop-d.invariant, value_more ds c.loop-d.d-index c.requires.digits c.loop-d-test.true, value_front ds (c.loop-d.d-index + 1) 19 c.requires.digits c.requires.few)

pub loop-d-preserved : goal.loop-d-preserved
loop-d-preserved c = omega (arith, c.loop-d.invariant, value_more c.args.digits.now c.loop-d.d-index c.requires.digits c.loop-d-test.true)
