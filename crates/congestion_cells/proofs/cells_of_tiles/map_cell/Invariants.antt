use Rattle.std.proofs.Common.{◌≡◌, ℕ, length, flat_map, map}
use Rattle.std.specs.List.{range_with_len}
use Rattle.congestion_cells.specs.declared.cell.Cell.{Cell}
use Rattle.congestion_cells.specs.Cells.{joined}
use Rattle.congestion_cells.specs.Rasters.{cell_tile, edges_at}
use Rattle.congestion_cells.proofs.cells_of_tiles.map_cell.Given as goal

-- the cell of the tiles so far
abbrev pub invariant-loop-j : goal.invariant-loop-j
invariant-loop-j l = (cell : ℕ → Cell) → l.edge_cells ≡ map cell (range_with_len 0 (length l.edge_cells))
    → l.found ≡ joined (map cell (flat_map (edges_at l.raster.direction) (map (cell_tile l.raster l.column l.row) (range_with_len 0 l.j))))
