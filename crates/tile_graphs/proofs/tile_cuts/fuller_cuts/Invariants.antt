use Rattle.std.proofs.Common.{◌≡◌, map}
use Rattle.tile_graphs.specs.Cuts.{cuts_of, fuller_cut}
use Rattle.tile_graphs.proofs.tile_cuts.fuller_cuts.Given as goal

-- the cuts so far
abbrev pub invariant-loop-tile_edge : goal.invariant-loop-tile_edge
invariant-loop-tile_edge l = l.fuller.items ≡ map (fuller_cut l.view.size (cuts_of l.view)) (map (λ (p : _). (p.0, p.1.now)) l.yielded)
