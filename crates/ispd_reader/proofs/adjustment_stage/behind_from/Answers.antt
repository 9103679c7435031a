use Rattle.std.proofs.lemmas.Result.{err_from_is_err_and}
use Rattle.ispd_reader.specs.Views.{extent_of_size}
use Rattle.ispd_reader.proofs.AdjustmentStages.{from_refused, from_goes_on, from_ends}
use Rattle.ispd_reader.proofs.adjustment_stage.behind_from.Goals as goal

pub returns-in_err-take-clause-becomes : goal.returns-in_err-take-clause-becomes
returns-in_err-take-clause-becomes c =
    let p = err_from_is_err_and c.from_residual.result c.from_residual.ensures.1 in
    rw (p.1, p.2) (λ index. from_refused c.args.token.now c.in_err-take.field-0.0 (extent_of_size c.args.size) index c.args.tile c.in_err-take.ensures.takes)

pub returns-in-None-clause-becomes : goal.returns-in-None-clause-becomes
returns-in-None-clause-becomes c = λ index r next. from_goes_on (extent_of_size c.args.size) index c.args.tile c.take.new.self r _ (rw c.in-None.is at c.in_ok-take.ensures.takes r next)

pub returns-in-Some-clause-becomes : goal.returns-in-Some-clause-becomes
returns-in-Some-clause-becomes c = λ index r next. from_ends (extent_of_size c.args.size) index c.args.tile c.in-Some.read r _ (rw c.in-Some.is at c.in_ok-take.ensures.takes r next)
