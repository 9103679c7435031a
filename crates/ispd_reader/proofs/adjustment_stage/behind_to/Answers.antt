use Rattle.std.proofs.Common.{◌≡◌, ◌∙◌, None, Some, sym, ap}
use Rattle.std.specs.Prelude.{option_map}
use Rattle.std.proofs.lemmas.Result.{err_from_is_err_and}
use Rattle.design_tokens.specs.declared.input_fault.InputFault.TheVariants.{AdjustmentPlace}
use Rattle.ispd_reader.specs.Adjustments.{step_between}
use Rattle.ispd_reader.specs.Views.{extent_of_size}
use Rattle.ispd_reader.proofs.AdjustmentStages.{to_refused, to_goes_on, to_ends, no_step}
use Rattle.ispd_reader.proofs.adjustment_stage.behind_to.Goals as goal

pub returns-in_err-take-clause-becomes : goal.returns-in_err-take-clause-becomes
returns-in_err-take-clause-becomes c =
    let p = err_from_is_err_and c.from_residual.result c.from_residual.ensures.1 in
    rw (p.1, p.2) (to_refused c.args.token.now c.in_err-take.field-0.0 (extent_of_size c.args.size) c.args.index c.args.from c.args.tile c.in_err-take.ensures.takes)

pub returns-in_err-edge-in-Some-clause-becomes : goal.returns-in_err-edge-in-Some-clause-becomes
returns-in_err-edge-in-Some-clause-becomes c =
    let p = err_from_is_err_and c.from_residual-in_err-edge-in-Some.result c.from_residual-in_err-edge-in-Some.ensures.1 in
    let extent = extent_of_size c.args.size in
    let none : c.step_between.result ≡ None = c.in_err-edge-in-Some.ensures.ok_part in
    let no : step_between extent c.args.from c.in-Some.read.0 ≡ None = sym c.step_between.ensures.step ∙ ap (option_map (λ edge. option_map (λ e. e.0) edge)) none in
    let is : c.in_err-edge-in-Some.field-0.0 ≡ AdjustmentPlace c.in-Some.read.1 c.args.index = let h = rw none at c.in_err-edge-in-Some.ensures.value in cc in
    rw (p.1, p.2, is) (λ r next. no_step extent c.args.index c.args.from c.args.tile c.in-Some.read r _ (rw c.in-Some.is at c.in_ok-take.ensures.takes r next) no)

pub returns-in-None-clause-becomes : goal.returns-in-None-clause-becomes
returns-in-None-clause-becomes c = λ r next. to_goes_on (extent_of_size c.args.size) c.args.index c.args.from c.args.tile c.take.new.self r _ (rw c.in-None.is at c.in_ok-take.ensures.takes r next)

pub returns-in_ok-edge-in-Some-clause-becomes : goal.returns-in_ok-edge-in-Some-clause-becomes
returns-in_ok-edge-in-Some-clause-becomes c =
    let extent = extent_of_size c.args.size in
    let step : step_between extent c.args.from c.in-Some.read.0 ≡ Some (option_map (λ e. e.0) c.in_ok-edge-in-Some.edge) = sym c.step_between.ensures.step ∙ ap (option_map (λ edge. option_map (λ e. e.0) edge)) c.in_ok-edge-in-Some.ensures.ok_part in
    λ r next. to_ends extent c.args.index c.args.from c.args.tile c.in-Some.read c.in_ok-edge-in-Some.edge r _ (rw c.in-Some.is at c.in_ok-take.ensures.takes r next) step
