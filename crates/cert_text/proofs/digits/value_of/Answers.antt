use Rattle.std.proofs.Common.{◌∙◌, arith}
use Rattle.text_scan.proofs.Digits.{digit_in, value_more}
use Rattle.cert_text.proofs.DigitLists.{digits_listed}
use Rattle.cert_text.proofs.digits.value_of.Goals as goal

pub overflow_sub-d : goal.overflow_sub-d
overflow_sub-d c =
    let ds = c.args.digits.now in
    (digit_in ds c.loop-d.d-index (digits_listed ds ∙ c.requires) c.loop-d-test.true).0

pub loop-d-preserved : goal.loop-d-preserved
loop-d-preserved c =
    let ds = c.args.digits.now in
    omega (arith, value_more ds c.loop-d.d-index (digits_listed ds ∙ c.requires) c.loop-d-test.true)
