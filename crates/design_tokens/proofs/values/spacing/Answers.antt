use Rattle.std.proofs.Common.{◌-◌}
use Rattle.grid_graph.specs.Limits.{max_demand}
use Rattle.design_tokens.specs.declared.input_error.InputError.TheVariants.{Input}
use Rattle.design_tokens.specs.declared.input_fault.InputFault.TheVariants.{WidthLimit}
use Rattle.design_tokens.specs.Numbers.{spacing_at}
use Rattle.design_tokens.proofs.NextTokens.{reads_err, within_refused, within_is_next, within_is_other}
use Rattle.design_tokens.proofs.values.spacing.Goals as goal

pub returns-in_err-number-clause-spacing : goal.returns-in_err-number-clause-spacing
returns-in_err-number-clause-spacing c = reads_err c.args.token.now (λ x. x) (spacing_at c.args.width) c.from_residual.result c.in_err-number.field-0.0 c.from_residual.ensures.1
    (within_refused c.args.token.now (1 - c.args.width) (max_demand - c.args.width) WidthLimit c.in_err-number.field-0.0 c.in_err-number.ensures.number)

pub returns-in_err-spacing-clause-spacing : goal.returns-in_err-spacing-clause-spacing
returns-in_err-spacing-clause-spacing c = reads_err c.args.token.now (λ x. x) (spacing_at c.args.width) c.from_residual-in_err-spacing.result (Input c.in_err-spacing.field-0.0) c.from_residual-in_err-spacing.ensures.1
    (within_is_other c.args.token.now (1 - c.args.width) (max_demand - c.args.width) WidthLimit c.in_ok-number.number c.within.result c.in_err-spacing.field-0.0
    (rw (c.saturating_sub.ensures, c.saturating_sub-2.ensures) at c.within.ensures) c.in_err-spacing.ensures.value c.in_ok-number.ensures.number)

pub returns-clause-spacing : goal.returns-clause-spacing
returns-clause-spacing c = within_is_next c.args.token.now (1 - c.args.width) (max_demand - c.args.width) WidthLimit c.in_ok-number.number c.within.result c.in_ok-spacing.spacing
    (rw (c.saturating_sub.ensures, c.saturating_sub-2.ensures) at c.within.ensures) c.in_ok-spacing.ensures.value c.in_ok-number.ensures.number
