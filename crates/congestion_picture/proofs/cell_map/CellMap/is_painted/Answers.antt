use Rattle.std.proofs.Common.{ℕ, ◌+◌, ◌*◌, ◌<◌, List, get_or, length, [], ◌∙◌, ap, arith}
use Rattle.std.proofs.lemmas.List.{get_or_default}
use Rattle.grid_base.specs.Numbers.{cols, rows as tile_rows}
use Rattle.congestion_cells.specs.declared.cell.Cell.{Cell}
use Rattle.congestion_cells.specs.Cells.{joined}
use Rattle.congestion_cells.specs.Rasters.{columns, rows}
use Rattle.congestion_cells.proofs.Blocks.{few_in_cell, few_parts, place_below}
use Rattle.congestion_picture.specs.CellMaps.{covers}
use Rattle.congestion_picture.proofs.cell_map.CellMap.is_painted.Goals as goal

pub offset_bounds-cells-row : goal.offset_bounds-cells-row
offset_bounds-cells-row c =
    let r = c.args.self.now.raster in
    let few = few_in_cell r.size (columns r) (rows r) (few_parts (cols r.size) r.side r.some) (few_parts (tile_rows r.size) r.side r.some) in
    rw c.columns.ensures (omega (arith, few, place_below (columns r) (rows r) c.args.column c.args.row c.requires.column c.requires.row))

pub bounds-cells-row : goal.bounds-cells-row
bounds-cells-row c =
    let r = c.args.self.now.raster in
    rw (c.columns.ensures, c.as_slice-cells.ensures.value)
    (omega (arith, c.requires.map, place_below (columns r) (rows r) c.args.column c.args.row c.requires.column c.requires.row))

pub returns : goal.returns
returns c =
    let r = c.args.self.now.raster in
    let place = c.args.row * c.columns.result + c.args.column in
    let below : place < length c.as_slice-cells.result.now =
    rw (c.columns.ensures, c.as_slice-cells.ensures.value)
    (omega (arith, c.requires.map, place_below (columns r) (rows r) c.args.column c.args.row c.requires.column c.requires.row)) in
    c.covers.ensures
    ∙ ap (covers c.args.paint) (
    get_or_default c.as_slice-cells.result.now place _ (joined []) below
    ∙ ap (λ (xs : List Cell). get_or xs place (joined [])) c.as_slice-cells.ensures.value
    ∙ ap (λ (k : ℕ). get_or c.args.self.now.cells.items (c.args.row * k + c.args.column) (joined [])) c.columns.ensures
    )
