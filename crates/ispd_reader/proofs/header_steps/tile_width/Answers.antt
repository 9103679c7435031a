use Rattle.std.proofs.Common.{refl}
use Rattle.ispd_reader.specs.declared.header_stage.HeaderStage.TheVariants.{Tiles}
use Rattle.ispd_reader.specs.declared.header_stage.LayoutStage.TheVariants.{Width}
use Rattle.ispd_reader.specs.Header.{tile_size_at}
use Rattle.design_tokens.specs.Numbers.{side_at}
use Rattle.ispd_reader.proofs.HeaderSteps.{stage_refused}
use Rattle.ispd_reader.proofs.header_steps.tile_width.Goals as goal

pub returns-in_err-width-clause-takes : goal.returns-in_err-width-clause-takes
unfolding tile_size_at
returns-in_err-width-clause-takes c = stage_refused c.args.token.now c.from_residual.result c.in_err-width.field-0.0 (λ x. x) side_at (Tiles c.args.size (Width c.args.origin)) (λ read r fault is. rw is refl) c.from_residual.ensures.1 c.in_err-width.ensures.side
