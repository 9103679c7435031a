-- The raster of a map: which tiles each of its cells stands for.
use Rattle.std.specs.Prelude.{ℕ, ◌+◌, ◌-◌, ◌*◌, ◌/◌, ◌%◌, max, min, List, [], ◌∷◌, flat_map, map}
use Rattle.std.specs.Int.{div_ceil}
use Rattle.std.specs.List.{range_with_len}
use Rattle.grid_base.specs.declared.size.Size.{Size}
use Rattle.grid_base.specs.Numbers.{cols, rows as tile_rows, vertex_number}
use Rattle.congestion_cells.specs.declared.cell.Cell.{Cell}
use Rattle.congestion_cells.specs.declared.direction.Direction.{Direction}
use Rattle.congestion_cells.specs.declared.direction.Direction.TheVariants.{X, Y, Greater}
use Rattle.congestion_cells.specs.declared.raster.Raster.{Raster}
use Rattle.congestion_cells.specs.Cells.{joined}

-- a map has at most so many cells a side
abbrev pub most_cells : ℕ
most_cells = 2000

-- how many parts of so many tiles cover a side of a grid, of which the last may be shorter
abbrev pub parts_of : ℕ → ℕ → ℕ
parts_of tiles side = div_ceil tiles side

-- how many tiles a side the cells of a grid's map have: the fewest by which no side has too many cells
abbrev pub side_for : Size → ℕ
side_for s = parts_of (max (cols s) (tile_rows s)) most_cells

-- how many columns and rows of cells a map has
abbrev pub columns : Raster → ℕ
columns r = parts_of (cols r.size) r.side

abbrev pub rows : Raster → ℕ
rows r = parts_of (tile_rows r.size) r.side

-- how many tiles the part of this number has, of a side of so many
abbrev pub tiles_in : ℕ → ℕ → ℕ → ℕ
tiles_in tiles side part = min side (tiles - part * side)

-- the tiles of a cell, row by row, by the numbers of their vertices on layer 0
abbrev pub cell_tile : Raster → ℕ → ℕ → ℕ → ℕ
cell_tile r column row j =
    let wide = tiles_in (cols r.size) r.side column in
    vertex_number r.size (column * r.side + j % wide) (row * r.side + j / wide) 0

abbrev pub cell_tiles : Raster → ℕ → ℕ → List ℕ
cell_tiles r column row =
    map (cell_tile r column row)
    (range_with_len 0 (tiles_in (cols r.size) r.side column * tiles_in (tile_rows r.size) r.side row))

-- the tile edges that a map shows at a tile: that to the next column, that to the next row, or both
abbrev pub edges_at : Direction → ℕ → List ℕ
edges_at X tile = (2 * tile) ∷ []
edges_at Y tile = (2 * tile + 1) ∷ []
edges_at Greater tile = (2 * tile) ∷ (2 * tile + 1) ∷ []

-- the cell of a map in this column and row, where each tile edge has such a cell
abbrev pub map_cell : Raster → (ℕ → Cell) → ℕ → ℕ → Cell
map_cell r cell column row = joined (map cell (flat_map (edges_at r.direction) (cell_tiles r column row)))

-- the cells of a map, row by row from the lowest row on
abbrev pub map_cells : Raster → (ℕ → Cell) → List Cell
map_cells r cell =
    map (λ i. map_cell r cell (i % columns r) (i / columns r)) (range_with_len 0 (columns r * rows r))
