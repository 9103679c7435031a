use Rattle.std.proofs.Common.{◌∙◌}
use Rattle.design_tokens.proofs.NextTokens.{name_is_next}
use Rattle.design_tokens.proofs.values.name.Goals as goal

pub returns : goal.returns
returns c = name_is_next c.args.token.now c.in_ok-from_slice.field-0.items (λ t is. c.in_ok-from_slice.ensures.items ∙ c.name.ensures t is)
