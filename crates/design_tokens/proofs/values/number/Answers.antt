use Rattle.design_tokens.specs.declared.input_error.InputError.TheVariants.{Input}
use Rattle.design_tokens.specs.Refusals.{refusal_of}
use Rattle.design_tokens.specs.Numbers.{number_at}
use Rattle.design_tokens.proofs.NextTokens.{reads_err, number_is_next, number_is_other}
use Rattle.design_tokens.proofs.values.number.Goals as goal

pub returns-in_err-number-clause-number : goal.returns-in_err-number-clause-number
returns-in_err-number-clause-number c = reads_err c.args.token.now (λ x. x) number_at c.from_residual.result (Input (refusal_of c.in_err-number.field-0.0)) c.from_residual.ensures.1
    (number_is_other c.args.token.now c.in_err-number.field-0.0 c.in_err-number.ensures.number)

pub returns-clause-number : goal.returns-clause-number
returns-clause-number c = number_is_next c.args.token.now c.in_ok-number.field-0 c.in_ok-number.ensures.number
