use Rattle.std.proofs.Common.{◌-◌, drop, arith, sym}
use Rattle.std.proofs.lemmas.List.Sums.{prefix_len-drop_yes}
use Rattle.std.specs.Char.{is_ascii_digit}
use Rattle.text_scan.proofs.Digits.{more_digits, value_behind, value_of_few}
use Rattle.text_scan.proofs.short_digits.short_digits.Goals as goal

pub overflow_mul-value : goal.overflow_mul-value
overflow_mul-value c =
    let inv = c.loop-i.invariant in
    omega (arith, inv.3, value_of_few (drop c.args.at c.args.bytes.now) (c.loop-i.i - c.args.at) inv.1 inv.2)

pub overflow_add-value : goal.overflow_add-value
overflow_add-value c =
    let inv = c.loop-i.invariant in
    omega (arith, c.from.ensures, c.if-not-is_ascii_digit.ensures.cases.1, inv.3, value_of_few (drop c.args.at c.args.bytes.now) (c.loop-i.i - c.args.at) inv.1 inv.2)

pub loop-i-preserved : goal.loop-i-preserved
loop-i-preserved c =
    let inv = c.loop-i.invariant in
    let text = c.args.bytes.now in
    let digit = sym c.if-not-is_ascii_digit.ensures.value in
    let value = value_behind text c.args.at c.loop-i.i c.loop-i.auto.i c.loop-i-test.true c.if-not-is_ascii_digit.ensures.cases.0 c.if-not-is_ascii_digit.ensures.cases.1 in (
      omega (arith, inv.0, prefix_len-drop_yes is_ascii_digit text c.loop-i.i 0 c.loop-i-test.true digit),
      omega (arith, inv.1, c.if-i-at-eq-MOST.false),
      more_digits text c.args.at c.loop-i.i c.loop-i.auto.i c.loop-i-test.true digit inv.2,
      omega (arith, inv.3, value, c.from.ensures),
    )
