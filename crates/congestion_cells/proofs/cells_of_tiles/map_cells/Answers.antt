use Rattle.std.proofs.Common.{◌≡◌, ℕ, ◌/◌, ◌%◌, ◌≤◌, ◌∷◌, [], ◌++◌, List, length, map, sym, ◌∙◌, ap, arith, zero-add}
use Rattle.std.specs.List.{range_with_len}
use Rattle.std.proofs.lemmas.List.FromFn.{map-range_with_len_more}
use Rattle.grid_base.specs.Numbers.{cols, rows as tile_rows}
use Rattle.congestion_cells.specs.declared.cell.Cell.{Cell}
use Rattle.congestion_cells.specs.Rasters.{columns, map_cell}
use Rattle.congestion_cells.proofs.Blocks.{few_in_cell, few_parts}
use Rattle.congestion_cells.proofs.cells_of_tiles.map_cells.Goals as goal

pub overflow_mul-i-end : goal.overflow_mul-i-end
overflow_mul-i-end c =
    let r = c.args.raster in
    let wide : c.columns-columns.result ≤ cols r.size = omega (arith, c.columns-columns.ensures, few_parts (cols r.size) r.side r.some) in
    let high : c.rows.result ≤ tile_rows r.size = omega (arith, c.rows.ensures, few_parts (tile_rows r.size) r.side r.some) in
    omega (arith, few_in_cell r.size c.columns-columns.result c.rows.result wide high)

pub loop-i-preserved : goal.loop-i-preserved
loop-i-preserved c cell is =
    let r = c.args.raster in
    let i = c.loop-i.i in
    let at : ℕ → Cell = λ k. map_cell r cell (k % columns r) (k / columns r) in
    let whole : c.args.edge_cells.now ≡ map cell (range_with_len 0 (length c.args.edge_cells.now)) =
    is ∙ ap (λ (n : ℕ). map cell (range_with_len 0 n)) (sym c.requires) in
    let one : c.map_cell.result ≡ at i = rw c.columns-columns.ensures at (c.map_cell.ensures cell whole) in
    c.in_ok-push.ensures.items
    ∙ ap (λ (xs : List Cell). xs ++ c.map_cell.result ∷ []) (c.loop-i.invariant cell is)
    ∙ ap (λ (x : Cell). map at (range_with_len 0 i) ++ x ∷ []) one
    ∙ sym (map-range_with_len_more at 0 i i (zero-add i))
