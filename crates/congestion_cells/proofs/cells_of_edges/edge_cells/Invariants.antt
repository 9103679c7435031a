use Rattle.std.proofs.Common.{◌≡◌, map, slice_index}
use Rattle.std.specs.List.{range_with_len}
use Rattle.congestion_cells.specs.Cells.{edge_cell}
use Rattle.congestion_cells.proofs.cells_of_edges.edge_cells.Given as goal

-- the cells of the tile edges so far
abbrev pub invariant-loop-e : goal.invariant-loop-e
invariant-loop-e l = l.cells.items ≡ map (edge_cell l.grid (slice_index l.loads) l.shown) (range_with_len 0 l.e)
