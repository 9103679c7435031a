-- What the open edges over tile edges carry, and what they can carry.
use Rattle.std.specs.Prelude.{ℕ, ◌*◌, List, cond, fold, ltb, replicate, slice_index}
use Rattle.std.specs.List.{range_with_len}
use Rattle.grid_graph.specs.declared.grid.Grid.{Grid}
use Rattle.grid_graph.specs.Flat.{tile_edge_of, tiles}
use Rattle.grid_graph.specs.Grids.{capacity, edge_numbers, size_of}
use Rattle.tile_graphs.specs.declared.tile_use.TileTotal.{TileTotal}
use Rattle.tile_graphs.specs.Cuts.{with_more_at}
use Rattle.tile_graphs.specs.Fullness.{no_total}

-- with an edge: if it is open, its tile edge carries what it carries, and can carry what it can
abbrev pub with_edge : Grid → List ℕ → List TileTotal → ℕ → List TileTotal
with_edge grid loads totals e =
    cond (ltb 0 (capacity grid e)) (with_more_at totals (tile_edge_of (size_of grid) e) (slice_index loads e) (capacity grid e)) totals

-- the totals of all tile edges
abbrev pub totals_of : Grid → List ℕ → List TileTotal
totals_of grid loads = fold (with_edge grid loads) (replicate (2 * tiles (size_of grid)) no_total) (range_with_len 0 (edge_numbers grid))
