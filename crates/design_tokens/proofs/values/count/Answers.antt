use Rattle.design_tokens.specs.declared.input_error.InputError.TheVariants.{Input}
use Rattle.design_tokens.specs.declared.input_fault.InputFault.TheVariants.{NetLimit}
use Rattle.design_tokens.specs.Numbers.{count_at}
use Rattle.design_tokens.proofs.NextTokens.{reads_err, within_refused, within_is_next, within_is_other}
use Rattle.design_tokens.proofs.values.count.Goals as goal

pub returns-in_err-number-clause-count : goal.returns-in_err-number-clause-count
returns-in_err-number-clause-count c = reads_err c.args.token.now (λ x. x) (count_at c.args.limit) c.from_residual.result c.in_err-number.field-0.0 c.from_residual.ensures.1
    (within_refused c.args.token.now 0 c.args.limit NetLimit c.in_err-number.field-0.0 c.in_err-number.ensures.number)

pub returns-in_err-count-clause-count : goal.returns-in_err-count-clause-count
returns-in_err-count-clause-count c = reads_err c.args.token.now (λ x. x) (count_at c.args.limit) c.from_residual-in_err-count.result (Input c.in_err-count.field-0.0) c.from_residual-in_err-count.ensures.1
    (within_is_other c.args.token.now 0 c.args.limit NetLimit c.in_ok-number.number c.within.result c.in_err-count.field-0.0 c.within.ensures c.in_err-count.ensures.value c.in_ok-number.ensures.number)

pub returns-clause-count : goal.returns-clause-count
returns-clause-count c = within_is_next c.args.token.now 0 c.args.limit NetLimit c.in_ok-number.number c.within.result c.in_ok-count.count c.within.ensures c.in_ok-count.ensures.value c.in_ok-number.ensures.number
