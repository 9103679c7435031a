use Rattle.ispd_reader.specs.declared.header_stage.HeaderStage.TheVariants.{List}
use Rattle.ispd_reader.specs.declared.header_stage.ListStage.TheVariants.{FirstWord}
use Rattle.ispd_reader.specs.LayersRead.{header_with}
use Rattle.design_tokens.specs.Numbers.{word_at}
use Rattle.ispd_reader.specs.LayerLists as lists
use Rattle.text_scan.specs.Reading.{past_token}
use Rattle.ispd_reader.proofs.HeaderSteps.{stage_refused, first_word_read, first_word_refused}
use Rattle.ispd_reader.proofs.header_steps.first_word.Goals as goal

pub returns-in_err-word-clause-takes : goal.returns-in_err-word-clause-takes
returns-in_err-word-clause-takes c = stage_refused c.args.token.now c.from_residual.result c.in_err-word.field-0.0 (λ (_ : Unit {0}). tt) (word_at (lists.first_word c.args.list)) (List c.args.size c.args.list FirstWord) (λ read r fault is. first_word_refused c.args.list (header_with c.args.size read) r fault is) c.from_residual.ensures.1 (rw c.first_word.ensures at c.in_err-word.ensures)

pub returns-clause-takes : goal.returns-clause-takes
returns-clause-takes c = λ read _ r next. first_word_read c.args.list (header_with c.args.size read) r (past_token r) (rw c.first_word.ensures at (c.in_ok-word.ensures r next))
