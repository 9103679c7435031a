use Rattle.std.proofs.Common.{◌≡◌, ◌*◌, ◌/◌, ◌%◌, ℕ, map}
use Rattle.std.specs.List.{range_with_len}
use Rattle.grid_graph.specs.Flat.{tiles}
use Rattle.congestion_cells.specs.declared.cell.Cell.{Cell}
use Rattle.congestion_cells.specs.Rasters.{columns, map_cell}
use Rattle.congestion_cells.proofs.cells_of_tiles.map_cells.Given as goal

-- the cells so far
abbrev pub invariant-loop-i : goal.invariant-loop-i
invariant-loop-i l = (cell : ℕ → Cell) → l.edge_cells ≡ map cell (range_with_len 0 (2 * tiles l.raster.size))
    → l.cells.items ≡ map (λ i. map_cell l.raster cell (i % columns l.raster) (i / columns l.raster)) (range_with_len 0 l.i)
