use Rattle.std.proofs.Common.{ℕ}
use Rattle.std.proofs.lemmas.Result.{err_from_is_err_and}
use Rattle.grid_graph.specs.Grids.{layout_of}
use Rattle.design_tokens.specs.declared.input_fault.InputFault.{InputFault}
use Rattle.design_tokens.specs.declared.input_fault.InputFault.TheVariants.{PinOutside}
use Rattle.ispd_reader.specs.Nets.{tile_along}
use Rattle.ispd_reader.specs.Views.{header_of}
use Rattle.ispd_reader.proofs.NextNumbers.{number_refused, wrong_number, right_number}
use Rattle.ispd_reader.proofs.net_numbers.row.Goals as goal

pub returns-in_err-y-clause-row : goal.returns-in_err-y-clause-row
returns-in_err-y-clause-row c =
    let h = header_of (layout_of c.args.grid.now) in
    let fault : ℕ → InputFault = λ at. PinOutside at c.args.id c.args.pin in
    let p = err_from_is_err_and c.from_residual.result c.from_residual.ensures.1 in
    rw (p.1, p.2) (number_refused c.args.token.now (tile_along h.origin.1 h.tile.1 h.extent.rows) fault c.in_err-y.field-0.0 c.in_err-y.ensures.number)

pub returns-in_err-row-clause-row : goal.returns-in_err-row-clause-row
returns-in_err-row-clause-row c =
    let h = header_of (layout_of c.args.grid.now) in
    let fault : ℕ → InputFault = λ at. PinOutside at c.args.id c.args.pin in
    let p = err_from_is_err_and c.from_residual-in_err-row.result c.from_residual-in_err-row.ensures.1 in
    rw (p.1, p.2) (wrong_number c.args.token.now (tile_along h.origin.1 h.tile.1 h.extent.rows) fault c.in_ok-y.y c.row_of.result c.in_err-row.field-0.0 c.in_ok-y.ensures.number c.row_of.ensures.row c.in_err-row.ensures.value)

pub returns-clause-row : goal.returns-clause-row
returns-clause-row c =
    let h = header_of (layout_of c.args.grid.now) in
    let fault : ℕ → InputFault = λ at. PinOutside at c.args.id c.args.pin in
    right_number c.args.token.now (tile_along h.origin.1 h.tile.1 h.extent.rows) fault c.in_ok-y.y c.row_of.result c.in_ok-row.row c.in_ok-y.ensures.number c.row_of.ensures.row c.in_ok-row.ensures.value
