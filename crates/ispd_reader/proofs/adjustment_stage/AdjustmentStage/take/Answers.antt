use Rattle.std.proofs.lemmas.Result.{err_from_is_err_and}
use Rattle.ispd_reader.specs.Views.{extent_of_size}
use Rattle.ispd_reader.proofs.AdjustmentStages.{level_refused, level_read}
use Rattle.ispd_reader.proofs.adjustment_stage.AdjustmentStage.take.Goals as goal

pub returns-in_err-level-in-Level-clause-takes : goal.returns-in_err-level-in-Level-clause-takes
returns-in_err-level-in-Level-clause-takes c =
    let p = err_from_is_err_and c.from_residual-in_err-level-in-Level.result c.from_residual-in_err-level-in-Level.ensures.1 in
    rw (p.1, p.2, c.in-Level.is) (level_refused c.args.token.now c.in_err-level-in-Level.field-0.0 (extent_of_size c.args.size) c.args.index c.in-Level.edge c.in_err-level-in-Level.ensures.capacity)

pub returns-in_ok-level-in-Level-clause-takes : goal.returns-in_ok-level-in-Level-clause-takes
returns-in_ok-level-in-Level-clause-takes c = rw c.in-Level.is (λ r next. level_read (extent_of_size c.args.size) c.args.index c.in-Level.edge c.in_ok-level-in-Level.level r _ (c.in_ok-level-in-Level.ensures.capacity r next))
