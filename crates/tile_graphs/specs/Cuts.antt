-- Cuts round single tiles: what the tile edges round a tile can carry, and what the nets carry over them that have to leave it, each once and
-- with what it uses on the lowest layer.
use Rattle.std.specs.Prelude.{ℕ, List, cond, fold, ltb, replicate, slice_index_or, slice_set, take}
use Rattle.std.specs.List.{enumerate_from}
use Rattle.grid_base.specs.declared.size.Size.{Size}
use Rattle.grid_graph.specs.Flat.{tiles}
use Rattle.tile_graphs.specs.declared.tile_nets.TileNet.{TileNet}
use Rattle.tile_graphs.specs.declared.tile_use.TileTotal.{TileTotal}
use Rattle.tile_graphs.specs.declared.tile_view.TileView.{TileView}
use Rattle.tile_graphs.specs.Fullness.{fuller_of, no_total, with_more}
use Rattle.tile_graphs.specs.TileEdges.{far_tile, near_tile}
use Rattle.tile_graphs.specs.TileNets.{listed_tiles}
use Rattle.tile_graphs.specs.Uses.{most_tile_edges}

-- with so much more at a tile
abbrev pub with_more_at : List TileTotal → ℕ → ℕ → ℕ → List TileTotal
with_more_at cuts tile load capacity = slice_set cuts tile (with_more (slice_index_or cuts tile no_total) load capacity)

-- with a tile edge, which is one of those round each of its tiles
abbrev pub with_tile_edge : Size → List TileTotal → ℕ × TileTotal → List TileTotal
with_tile_edge size cuts numbered =
    with_more_at (with_more_at cuts (near_tile numbered.0) 0 numbered.1.capacity) (far_tile size numbered.0) 0 numbered.1.capacity

-- with a net that leaves a tile
abbrev pub with_way_out : ℕ → List TileTotal → ℕ → List TileTotal
with_way_out demand cuts tile = with_more_at cuts tile demand 0

-- with a net, which leaves each of its tiles
abbrev pub with_net : List ℕ → List TileTotal → TileNet → List TileTotal
with_net tiles cuts net = fold (with_way_out net.demand) cuts (listed_tiles tiles net)

-- the cuts of all tiles of a view
abbrev pub cuts_of : TileView → List TileTotal
cuts_of view =
    let round = fold (with_tile_edge view.size) (replicate (tiles view.size) no_total) (enumerate_from 0 (take most_tile_edges view.totals.items)) in
    fold (with_net view.nets.tiles.items) round view.nets.nets.items

-- for a tile edge the fuller one of the cuts round its two tiles, if it is open
abbrev pub fuller_cut : Size → List TileTotal → ℕ × TileTotal → TileTotal
fuller_cut size cuts numbered =
    cond (ltb 0 numbered.1.capacity)
    (fuller_of (slice_index_or cuts (near_tile numbered.0) no_total) (slice_index_or cuts (far_tile size numbered.0) no_total))
    no_total
