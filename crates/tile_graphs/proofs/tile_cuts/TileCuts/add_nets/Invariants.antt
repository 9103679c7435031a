use Rattle.std.proofs.Common.{◌≡◌, drop, fold}
use Rattle.tile_graphs.specs.Cuts.{with_net}
use Rattle.tile_graphs.proofs.tile_cuts.TileCuts.add_nets.Given as goal

-- the nets left are still to be added
abbrev pub invariant-loop-net : goal.invariant-loop-net
invariant-loop-net l = fold (with_net l.view.nets.tiles.items) l.self.totals.items (drop l.net-index l.view.nets.nets.items)
    ≡ fold (with_net l.view.nets.tiles.items) l.initial.self.totals.items l.view.nets.nets.items
