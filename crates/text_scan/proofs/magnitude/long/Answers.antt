use Rattle.std.proofs.Common.{arith}
use Rattle.text_scan.proofs.Digits.{digit_in, value_more}
use Rattle.text_scan.proofs.magnitude.long.Goals as goal

pub overflow_sub-d : goal.overflow_sub-d
overflow_sub-d c = (digit_in c.args.digits.now c.loop-d.d-index c.requires c.loop-d-test.true).0

pub loop-d-preserved : goal.loop-d-preserved
loop-d-preserved c = omega (arith, value_more c.args.digits.now c.loop-d.d-index c.requires c.loop-d-test.true)
