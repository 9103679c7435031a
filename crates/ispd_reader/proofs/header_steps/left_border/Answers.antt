use Rattle.std.proofs.Common.{refl}
use Rattle.ispd_reader.specs.declared.header_stage.HeaderStage.TheVariants.{Tiles}
use Rattle.ispd_reader.specs.declared.header_stage.LayoutStage.TheVariants.{Left}
use Rattle.ispd_reader.specs.Header.{origin_at}
use Rattle.design_tokens.specs.Numbers.{number_at}
use Rattle.ispd_reader.proofs.HeaderSteps.{stage_refused}
use Rattle.ispd_reader.proofs.header_steps.left_border.Goals as goal

pub returns-in_err-left-clause-takes : goal.returns-in_err-left-clause-takes
unfolding origin_at
returns-in_err-left-clause-takes c = stage_refused c.args.token.now c.from_residual.result c.in_err-left.field-0.0 (λ x. x) number_at (Tiles c.args.size Left) (λ read r fault is. rw is refl) c.from_residual.ensures.1 c.in_err-left.ensures.number
