use Rattle.grid_graph.specs.Limits.{max_demand}
use Rattle.design_tokens.specs.declared.input_error.InputError.TheVariants.{Input}
use Rattle.design_tokens.specs.declared.input_fault.InputFault.TheVariants.{WidthLimit}
use Rattle.design_tokens.specs.Numbers.{width_at}
use Rattle.design_tokens.proofs.NextTokens.{reads_err, within_refused, within_is_next, within_is_other}
use Rattle.design_tokens.proofs.values.width.Goals as goal

pub returns-in_err-number-clause-width : goal.returns-in_err-number-clause-width
returns-in_err-number-clause-width c = reads_err c.args.token.now (λ x. x) width_at c.from_residual.result c.in_err-number.field-0.0 c.from_residual.ensures.1
    (within_refused c.args.token.now 0 max_demand WidthLimit c.in_err-number.field-0.0 c.in_err-number.ensures.number)

pub returns-in_err-width-clause-width : goal.returns-in_err-width-clause-width
returns-in_err-width-clause-width c = reads_err c.args.token.now (λ x. x) width_at c.from_residual-in_err-width.result (Input c.in_err-width.field-0.0) c.from_residual-in_err-width.ensures.1
    (within_is_other c.args.token.now 0 max_demand WidthLimit c.in_ok-number.number c.within.result c.in_err-width.field-0.0 c.within.ensures c.in_err-width.ensures.value c.in_ok-number.ensures.number)

pub returns-clause-width : goal.returns-clause-width
returns-clause-width c = within_is_next c.args.token.now 0 max_demand WidthLimit c.in_ok-number.number c.within.result c.in_ok-width.width c.within.ensures c.in_ok-width.ensures.value c.in_ok-number.ensures.number
