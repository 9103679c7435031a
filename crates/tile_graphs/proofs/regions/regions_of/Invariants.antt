use Rattle.std.proofs.Common.{◌≡◌, length}
use Rattle.grid_graph.specs.Flat.{tiles}
use Rattle.tile_graphs.proofs.regions.regions_of.Given as goal

-- there is a number for each tile
abbrev pub invariant-loop-tile_edge : goal.invariant-loop-tile_edge
invariant-loop-tile_edge l = length l.regions.groups.parents.items ≡ tiles l.view.size
