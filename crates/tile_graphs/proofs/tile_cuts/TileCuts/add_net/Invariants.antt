use Rattle.std.proofs.Common.{◌≡◌, drop, fold}
use Rattle.tile_graphs.specs.Cuts.{with_way_out}
use Rattle.tile_graphs.proofs.tile_cuts.TileCuts.add_net.Given as goal

-- the tiles left are still to be added
abbrev pub invariant-loop-tile : goal.invariant-loop-tile
invariant-loop-tile l = fold (with_way_out l.demand) l.self.totals.items (drop l.tile-index l.tiles)
    ≡ fold (with_way_out l.demand) l.initial.self.totals.items l.tiles
