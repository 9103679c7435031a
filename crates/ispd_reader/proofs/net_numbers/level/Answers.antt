use Rattle.std.proofs.Common.{◌≡◌, ℕ, ap, ◌∙◌}
use Rattle.std.proofs.lemmas.Result.{err_from_is_err_and}
use Rattle.text_scan.specs.Within.{within}
use Rattle.grid_base.specs.Numbers.{layers}
use Rattle.grid_graph.specs.Grids.{layout_of}
use Rattle.design_tokens.specs.declared.input_fault.InputFault.{InputFault}
use Rattle.design_tokens.specs.declared.input_fault.InputFault.TheVariants.{PinLayer}
use Rattle.ispd_reader.specs.Views.{header_of}
use Rattle.ispd_reader.proofs.NextNumbers.{number_refused, wrong_number, right_number}
use Rattle.ispd_reader.proofs.net_numbers.level.Goals as goal

pub returns-in_err-layer-clause-level : goal.returns-in_err-layer-clause-level
returns-in_err-layer-clause-level c =
    let h = header_of (layout_of c.args.grid.now) in
    let fault : ℕ → InputFault = λ at. PinLayer at c.args.id c.args.pin in
    let p = err_from_is_err_and c.from_residual.result c.from_residual.ensures.1 in
    rw (p.1, p.2) (number_refused c.args.token.now (within 1 h.extent.layers) fault c.in_err-layer.field-0.0 c.in_err-layer.ensures.number)

pub returns-in_err-level-clause-level : goal.returns-in_err-level-clause-level
returns-in_err-level-clause-level c =
    let h = header_of (layout_of c.args.grid.now) in
    let fault : ℕ → InputFault = λ at. PinLayer at c.args.id c.args.pin in
    let is : c.within.result ≡ within 1 h.extent.layers c.in_ok-layer.layer.value = c.within.ensures ∙ ap (λ n. within 1 n c.in_ok-layer.layer.value) (c.layers.ensures ∙ ap layers c.size.ensures) in
    let p = err_from_is_err_and c.from_residual-in_err-level.result c.from_residual-in_err-level.ensures.1 in
    rw (p.1, p.2) (wrong_number c.args.token.now (within 1 h.extent.layers) fault c.in_ok-layer.layer c.within.result c.in_err-level.field-0.0 c.in_ok-layer.ensures.number is c.in_err-level.ensures.value)

pub returns-clause-level : goal.returns-clause-level
returns-clause-level c =
    let h = header_of (layout_of c.args.grid.now) in
    let fault : ℕ → InputFault = λ at. PinLayer at c.args.id c.args.pin in
    let is : c.within.result ≡ within 1 h.extent.layers c.in_ok-layer.layer.value = c.within.ensures ∙ ap (λ n. within 1 n c.in_ok-layer.layer.value) (c.layers.ensures ∙ ap layers c.size.ensures) in
    right_number c.args.token.now (within 1 h.extent.layers) fault c.in_ok-layer.layer c.within.result c.in_ok-level.level c.in_ok-layer.ensures.number is c.in_ok-level.ensures.value
