use Rattle.std.proofs.Common.{ℕ}
use Rattle.std.proofs.lemmas.Result.{err_from_is_err_and}
use Rattle.grid_graph.specs.Grids.{layout_of}
use Rattle.design_tokens.specs.declared.input_fault.InputFault.{InputFault}
use Rattle.design_tokens.specs.declared.input_fault.InputFault.TheVariants.{PinOutside}
use Rattle.ispd_reader.specs.Nets.{tile_along}
use Rattle.ispd_reader.specs.Views.{header_of}
use Rattle.ispd_reader.proofs.NextNumbers.{number_refused, wrong_number, right_number}
use Rattle.ispd_reader.proofs.net_numbers.column.Goals as goal

pub returns-in_err-x-clause-column : goal.returns-in_err-x-clause-column
returns-in_err-x-clause-column c =
    let h = header_of (layout_of c.args.grid.now) in
    let fault : ℕ → InputFault = λ at. PinOutside at c.args.id c.args.pin in
    let p = err_from_is_err_and c.from_residual.result c.from_residual.ensures.1 in
    rw (p.1, p.2) (number_refused c.args.token.now (tile_along h.origin.0 h.tile.0 h.extent.cols) fault c.in_err-x.field-0.0 c.in_err-x.ensures.number)

pub returns-in_err-col-clause-column : goal.returns-in_err-col-clause-column
returns-in_err-col-clause-column c =
    let h = header_of (layout_of c.args.grid.now) in
    let fault : ℕ → InputFault = λ at. PinOutside at c.args.id c.args.pin in
    let p = err_from_is_err_and c.from_residual-in_err-col.result c.from_residual-in_err-col.ensures.1 in
    rw (p.1, p.2) (wrong_number c.args.token.now (tile_along h.origin.0 h.tile.0 h.extent.cols) fault c.in_ok-x.x c.column_of.result c.in_err-col.field-0.0 c.in_ok-x.ensures.number c.column_of.ensures.column c.in_err-col.ensures.value)

pub returns-clause-column : goal.returns-clause-column
returns-clause-column c =
    let h = header_of (layout_of c.args.grid.now) in
    let fault : ℕ → InputFault = λ at. PinOutside at c.args.id c.args.pin in
    right_number c.args.token.now (tile_along h.origin.0 h.tile.0 h.extent.cols) fault c.in_ok-x.x c.column_of.result c.in_ok-col.col c.in_ok-x.ensures.number c.column_of.ensures.column c.in_ok-col.ensures.value
