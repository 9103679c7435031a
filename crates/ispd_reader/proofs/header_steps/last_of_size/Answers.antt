use Rattle.std.proofs.Common.{refl, sym, ap, ◌∙◌}
use Rattle.std.proofs.lemmas.Result.{err_from_is_err_and}
use Rattle.text_scan.specs.Reading.{past_token}
use Rattle.ispd_reader.specs.HeaderTails.{with_extent}
use Rattle.ispd_reader.specs.declared.header_stage.HeaderStage.TheVariants.{Size}
use Rattle.ispd_reader.specs.declared.header_stage.SizeStage.TheVariants.{Layers}
use Rattle.design_tokens.specs.Numbers.{number_at}
use Rattle.ispd_reader.proofs.HeaderSteps.{stage_refused, no_size}
use Rattle.ispd_reader.proofs.header_steps.last_of_size.Goals as goal

pub returns-in_err-layers-clause-takes : goal.returns-in_err-layers-clause-takes
returns-in_err-layers-clause-takes c = stage_refused c.args.token.now c.from_residual.result c.in_err-layers.field-0.0 (λ x. x) number_at (Size (Layers c.args.cols c.args.rows)) (λ lists r fault is. rw is refl) c.from_residual.ensures.1 c.in_err-layers.ensures.number

pub returns-in_err-size-clause-takes : goal.returns-in_err-size-clause-takes
returns-in_err-size-clause-takes c =
    let p = err_from_is_err_and c.from_residual-in_err-size.result c.from_residual-in_err-size.ensures.1 in
    rw (p.1, p.2) (λ lists r next.
    ap with_extent (no_size c.size_of.result c.args.cols c.args.rows c.in_ok-layers.layers c.in_err-size.field-0.0 r (past_token r) c.size_of.ensures (sym c.ok_or.ensures.value ∙ c.in_err-size.was) (c.in_ok-layers.ensures.number r next)))
