use Rattle.std.proofs.Common.{refl}
use Rattle.ispd_reader.specs.declared.header_stage.HeaderStage.TheVariants.{Size}
use Rattle.ispd_reader.specs.declared.header_stage.SizeStage.TheVariants.{Grid, Cols, Rows}
use Rattle.design_tokens.specs.declared.wanted.Wanted.TheVariants as wanted
use Rattle.ispd_reader.specs.Header.{extent_at}
use Rattle.design_tokens.specs.Numbers.{word_at, number_at}
use Rattle.ispd_reader.proofs.HeaderSteps.{stage_refused}
use Rattle.ispd_reader.proofs.header_steps.size_token.Goals as goal

pub returns-in_err-word-in-Grid-clause-takes : goal.returns-in_err-word-in-Grid-clause-takes
unfolding extent_at
returns-in_err-word-in-Grid-clause-takes c = rw c.in-Grid.is (stage_refused c.args.token.now c.from_residual.result c.in_err-word-in-Grid.field-0.0 (λ (_ : Unit {0}). tt) (word_at wanted.Grid) (Size Grid) (λ lists r fault is. rw is refl) c.from_residual.ensures.1 c.in_err-word-in-Grid.ensures)

pub returns-in_err-cols-in-Cols-clause-takes : goal.returns-in_err-cols-in-Cols-clause-takes
returns-in_err-cols-in-Cols-clause-takes c = rw c.in-Cols.is (stage_refused c.args.token.now c.from_residual-in_err-cols-in-Cols.result c.in_err-cols-in-Cols.field-0.0 (λ x. x) number_at (Size Cols) (λ lists r fault is. rw is refl) c.from_residual-in_err-cols-in-Cols.ensures.1 c.in_err-cols-in-Cols.ensures.number)

pub returns-in_err-rows-in-Rows-clause-takes : goal.returns-in_err-rows-in-Rows-clause-takes
returns-in_err-rows-in-Rows-clause-takes c = rw c.in-Rows.is (stage_refused c.args.token.now c.from_residual-in_err-rows-in-Rows.result c.in_err-rows-in-Rows.field-0.0 (λ x. x) number_at (Size (Rows c.in-Rows.cols)) (λ lists r fault is. rw is refl) c.from_residual-in_err-rows-in-Rows.ensures.1 c.in_err-rows-in-Rows.ensures.number)

pub returns-in_ok-word-in-Grid-clause-takes : goal.returns-in_ok-word-in-Grid-clause-takes
unfolding extent_at
returns-in_ok-word-in-Grid-clause-takes c = rw c.in-Grid.is (λ lists _ r next. rw (c.in_ok-word-in-Grid.ensures r next) refl)
