use Rattle.std.proofs.Common.{◌≡◌, fold, map, replicate}
use Rattle.grid_graph.specs.Flat.{tiles}
use Rattle.tile_graphs.specs.Cuts.{with_tile_edge}
use Rattle.tile_graphs.specs.Fullness.{no_total}
use Rattle.tile_graphs.proofs.tile_cuts.TileCuts.of.Given as goal

-- the tile edges so far
abbrev pub invariant-loop-tile_edge : goal.invariant-loop-tile_edge
invariant-loop-tile_edge l = l.cuts.totals.items
    ≡ fold (with_tile_edge l.view.size) (replicate (tiles l.view.size) no_total) (map (λ (p : _). (p.0, p.1.now)) l.yielded)
