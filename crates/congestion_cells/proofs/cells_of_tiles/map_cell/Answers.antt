use Rattle.std.proofs.Common.{◌≡◌, ℕ, ◌-◌, ◌*◌, ◌≤◌, map, min, ◌∙◌, ap, arith}
use Rattle.grid_base.specs.Numbers.{cols, rows}
use Rattle.congestion_cells.specs.Cells.{joined, with_cell}
use Rattle.congestion_cells.specs.Rasters.{cell_tile, edges_at, tiles_in}
use Rattle.congestion_cells.proofs.Blocks.{few_in_cell, few_tiles, tile_below, tile_number}
use Rattle.congestion_cells.proofs.Joined.{joined-more}
use Rattle.congestion_cells.proofs.cells_of_tiles.map_cell.Goals as goal

pub overflow_mul-j-end : goal.overflow_mul-j-end
overflow_mul-j-end c =
    let r = c.args.raster in
    let wide : c.min-wide.result ≤ cols r.size = omega (arith, c.min-wide.ensures, c.cols.ensures) in
    let high : c.min-high.result ≤ rows r.size = omega (arith, c.min-high.ensures, c.rows.ensures) in
    omega (arith, few_in_cell r.size c.min-wide.result c.min-high.result wide high)

pub overflow_mul-tile : goal.overflow_mul-tile
overflow_mul-tile c =
    let r = c.args.raster in
    let wide : c.min-wide.result ≡ tiles_in (cols r.size) r.side c.args.column = c.min-wide.ensures ∙ ap (λ (n : ℕ). min r.side (n - c.args.column * r.side)) c.cols.ensures in
    let high : c.min-high.result ≡ tiles_in (rows r.size) r.side c.args.row = c.min-high.ensures ∙ ap (λ (n : ℕ). min r.side (n - c.args.row * r.side)) c.rows.ensures in
    omega (arith, few_tiles r.size, tile_below r c.args.column c.args.row c.loop-j.j c.min-wide.result c.min-high.result c.cols-in-loop-j.result c.requires.column c.requires.row wide high c.cols-in-loop-j.ensures c.loop-j-test.true)

pub overflow_add-tile-in-loop-j-2 : goal.overflow_add-tile-in-loop-j-2
overflow_add-tile-in-loop-j-2 c =
    let r = c.args.raster in
    let wide : c.min-wide.result ≡ tiles_in (cols r.size) r.side c.args.column = c.min-wide.ensures ∙ ap (λ (n : ℕ). min r.side (n - c.args.column * r.side)) c.cols.ensures in
    let high : c.min-high.result ≡ tiles_in (rows r.size) r.side c.args.row = c.min-high.ensures ∙ ap (λ (n : ℕ). min r.side (n - c.args.row * r.side)) c.rows.ensures in
    omega (arith, few_tiles r.size, tile_below r c.args.column c.args.row c.loop-j.j c.min-wide.result c.min-high.result c.cols-in-loop-j.result c.requires.column c.requires.row wide high c.cols-in-loop-j.ensures c.loop-j-test.true)

pub with_tile-found-requires : goal.with_tile-found-requires
with_tile-found-requires c =
    let r = c.args.raster in
    let wide : c.min-wide.result ≡ tiles_in (cols r.size) r.side c.args.column = c.min-wide.ensures ∙ ap (λ (n : ℕ). min r.side (n - c.args.column * r.side)) c.cols.ensures in
    let high : c.min-high.result ≡ tiles_in (rows r.size) r.side c.args.row = c.min-high.ensures ∙ ap (λ (n : ℕ). min r.side (n - c.args.row * r.side)) c.rows.ensures in
    omega (arith, c.requires.cells, tile_below r c.args.column c.args.row c.loop-j.j c.min-wide.result c.min-high.result c.cols-in-loop-j.result c.requires.column c.requires.row wide high c.cols-in-loop-j.ensures c.loop-j-test.true)

pub loop-j-preserved : goal.loop-j-preserved
loop-j-preserved c cell is =
    let r = c.args.raster in
    let tile : ℕ → ℕ = cell_tile r c.args.column c.args.row in
    let wide : c.min-wide.result ≡ tiles_in (cols r.size) r.side c.args.column = c.min-wide.ensures ∙ ap (λ (n : ℕ). min r.side (n - c.args.column * r.side)) c.cols.ensures in
    let number = tile_number r c.args.column c.args.row c.loop-j.j c.min-wide.result c.cols-in-loop-j.result wide c.cols-in-loop-j.ensures in
    c.with_tile-found.ensures cell is
    ∙ ap (λ (t : ℕ). with_cell c.loop-j.found (joined (map cell (edges_at r.direction t)))) number
    ∙ joined-more cell r.direction tile c.loop-j.j c.loop-j.found (c.loop-j.invariant cell is)
