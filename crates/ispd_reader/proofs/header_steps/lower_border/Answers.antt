use Rattle.std.proofs.Common.{refl}
use Rattle.ispd_reader.specs.declared.header_stage.HeaderStage.TheVariants.{Tiles}
use Rattle.ispd_reader.specs.declared.header_stage.LayoutStage.TheVariants.{Lower}
use Rattle.design_tokens.specs.Numbers.{number_at}
use Rattle.ispd_reader.proofs.HeaderSteps.{stage_refused}
use Rattle.ispd_reader.proofs.header_steps.lower_border.Goals as goal

pub returns-in_err-lower-clause-takes : goal.returns-in_err-lower-clause-takes
returns-in_err-lower-clause-takes c = stage_refused c.args.token.now c.from_residual.result c.in_err-lower.field-0.0 (λ x. x) number_at (Tiles c.args.size (Lower c.args.left)) (λ read r fault is. rw is refl) c.from_residual.ensures.1 c.in_err-lower.ensures.number
