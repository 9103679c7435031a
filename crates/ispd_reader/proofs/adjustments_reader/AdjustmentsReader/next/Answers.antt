use Rattle.std.proofs.lemmas.Result.{err_from_is_err_and}
use Rattle.ispd_reader.specs.Adjusted.{adjustment_of}
use Rattle.ispd_reader.specs.AdjustmentsLeft.{adjustments_left}
use Rattle.ispd_reader.specs.Views.{extent_of_size}
use Rattle.ispd_reader.proofs.AdjustmentStages.{count_refused_next, count_read, one_refused, one_goes_on, one_ends, done_goes_on}
use Rattle.ispd_reader.proofs.adjustments_reader.AdjustmentsReader.next.Goals as goal

pub returns-in_err-count-in-Count-clause-makes : goal.returns-in_err-count-in-Count-clause-makes
returns-in_err-count-in-Count-clause-makes c =
    let p = err_from_is_err_and c.from_residual.result c.from_residual.ensures.1 in
    rw (p.1, p.2, c.in-Count.is) (count_refused_next c.args.token.now c.in_err-count-in-Count.field-0.0 (extent_of_size c.args.size) c.in_err-count-in-Count.ensures.count)

pub returns-in_ok-count-in-Count-clause-makes : goal.returns-in_ok-count-in-Count-clause-makes
returns-in_ok-count-in-Count-clause-makes c =
    let extent = extent_of_size c.args.size in
    rw c.in-Count.is (count_read extent c.args.token.now c.in_ok-count-in-Count.field-0 (adjustments_left extent c.before-in-Count.result) c.in_ok-count-in-Count.ensures.count (c.before-in-Count.ensures.left extent))

pub returns-in_ok-count-in-Count-clause-fits : goal.returns-in_ok-count-in-Count-clause-fits
returns-in_ok-count-in-Count-clause-fits c = c.before-in-Count.ensures.fits c.args.size

pub returns-in_err-take-in-Adjustment-clause-makes : goal.returns-in_err-take-in-Adjustment-clause-makes
returns-in_err-take-in-Adjustment-clause-makes c =
    let p = err_from_is_err_and c.from_residual-in_err-take-in-Adjustment.result c.from_residual-in_err-take-in-Adjustment.ensures.1 in
    rw (p.1, p.2, c.in-Adjustment.is) (one_refused c.args.token.now c.in_err-take-in-Adjustment.field-0.0 (extent_of_size c.args.size) c.in-Adjustment.stage c.in-Adjustment.index c.in-Adjustment.owed c.in_err-take-in-Adjustment.ensures.takes)

pub returns-in-None-clause-makes : goal.returns-in-None-clause-makes
returns-in-None-clause-makes c =
    rw c.in-Adjustment.is (λ r next. one_goes_on (extent_of_size c.args.size) c.in-Adjustment.stage c.take.new.self c.in-Adjustment.index c.in-Adjustment.owed r _ (rw c.in-None.is at c.in_ok-take-in-Adjustment.ensures.takes r next))

pub returns-in-Some-clause-makes : goal.returns-in-Some-clause-makes
returns-in-Some-clause-makes c =
    let extent = extent_of_size c.args.size in
    rw c.in-Adjustment.is (λ r next. one_ends extent c.in-Adjustment.stage c.in-Adjustment.index c.in-Adjustment.owed r _ (adjustment_of c.in-Some.adjustment) c.before-in-Some.result (rw c.in-Some.is at c.in_ok-take-in-Adjustment.ensures.takes r next) (c.before-in-Some.ensures.left extent _))

pub returns-in-Some-clause-fits : goal.returns-in-Some-clause-fits
returns-in-Some-clause-fits c = c.before-in-Some.ensures.fits c.args.size

pub returns-in-Done-clause-makes : goal.returns-in-Done-clause-makes
returns-in-Done-clause-makes c = rw c.in-Done.is (λ r next. done_goes_on (extent_of_size c.args.size) r _)
