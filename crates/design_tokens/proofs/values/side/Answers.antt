use Rattle.design_tokens.specs.Numbers.{side_at}
use Rattle.design_tokens.proofs.NextTokens.{reads_err, side_refused, side_is_next, side_is_other, position_stays}
use Rattle.design_tokens.proofs.values.side.Goals as goal

pub returns-in_err-number-clause-side : goal.returns-in_err-number-clause-side
returns-in_err-number-clause-side c = reads_err c.args.token.now (λ x. x) side_at c.from_residual.result c.in_err-number.field-0.0 c.from_residual.ensures.1
    (side_refused c.args.token.now c.in_err-number.field-0.0 c.in_err-number.ensures.number)

pub returns-then-number-lt1-clause-side : goal.returns-then-number-lt1-clause-side
returns-then-number-lt1-clause-side c =
    let n = c.in_ok-number.number in
    side_is_other c.args.token.now n (rw (position_stays n.value c.in_ok-number.ensures.range) at c.if-number-lt1.true) c.in_ok-number.ensures.number

pub returns-clause-side : goal.returns-clause-side
returns-clause-side c =
    let n = c.in_ok-number.number in
    let same = position_stays n.value c.in_ok-number.ensures.range in
    rw same (side_is_next c.args.token.now n (rw same at c.if-number-lt1.false) c.in_ok-number.ensures.number)
