use Rattle.std.proofs.Common.{◌≡◌, ◌*◌, fold, length, replicate}
use Rattle.std.specs.List.{range_with_len}
use Rattle.grid_graph.specs.Flat.{tiles}
use Rattle.grid_graph.specs.Grids.{size_of}
use Rattle.tile_graphs.specs.Fullness.{no_total}
use Rattle.tile_graphs.specs.Totals.{with_edge}
use Rattle.tile_graphs.proofs.tile_use.tile_totals.Given as goal

-- there is a total for each tile edge, and the edges so far are added
abbrev pub invariant-loop-e : goal.invariant-loop-e
invariant-loop-e l = record {
  long : length l.totals.items ≡ 2 * tiles (size_of l.grid);
  all : l.totals.items ≡ fold (with_edge l.grid l.loads) (replicate (2 * tiles (size_of l.grid)) no_total) (range_with_len 0 l.e);
}
