use Rattle.std.proofs.Common.{◌≤◌, length}
use Rattle.std.specs.List.{All}
use Rattle.tile_graphs.specs.TileNets.{HasTiles}
use Rattle.tile_graphs.proofs.tile_nets.TileNets.of.Given as goal

-- the nets so far
abbrev pub invariant-loop-place : goal.invariant-loop-place
invariant-loop-place l = record {
  few : length l.nets.nets.items ≤ l.place;
  tiles : All (HasTiles l.nets.tiles.items) l.nets.nets.items;
}
