use Rattle.grid_graph.specs.Limits.{max_capacity}
use Rattle.design_tokens.specs.declared.input_error.InputError.TheVariants.{Input}
use Rattle.design_tokens.specs.declared.input_fault.InputFault.TheVariants.{CapacityLimit}
use Rattle.design_tokens.specs.Numbers.{capacity_at}
use Rattle.design_tokens.proofs.NextTokens.{reads_err, within_refused, within_is_next, within_is_other}
use Rattle.design_tokens.proofs.values.capacity.Goals as goal

pub returns-in_err-number-clause-capacity : goal.returns-in_err-number-clause-capacity
returns-in_err-number-clause-capacity c = reads_err c.args.token.now (λ x. x) capacity_at c.from_residual.result c.in_err-number.field-0.0 c.from_residual.ensures.1
    (within_refused c.args.token.now 0 max_capacity CapacityLimit c.in_err-number.field-0.0 c.in_err-number.ensures.number)

pub returns-in_err-level-clause-capacity : goal.returns-in_err-level-clause-capacity
returns-in_err-level-clause-capacity c = reads_err c.args.token.now (λ x. x) capacity_at c.from_residual-in_err-level.result (Input c.in_err-level.field-0.0) c.from_residual-in_err-level.ensures.1
    (within_is_other c.args.token.now 0 max_capacity CapacityLimit c.in_ok-number.number c.within.result c.in_err-level.field-0.0 c.within.ensures c.in_err-level.ensures.value c.in_ok-number.ensures.number)

pub returns-clause-capacity : goal.returns-clause-capacity
returns-clause-capacity c = within_is_next c.args.token.now 0 max_capacity CapacityLimit c.in_ok-number.number c.within.result c.in_ok-level.level c.within.ensures c.in_ok-level.ensures.value c.in_ok-number.ensures.number
