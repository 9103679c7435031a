use Rattle.std.proofs.Common.{◌≡◌, map}
use Rattle.std.specs.List.{flat_map}
use Rattle.tile_graphs.specs.Uses.{use_of}
use Rattle.tile_graphs.proofs.tile_use.fullest_first.Given as goal

-- the open tile edges so far
abbrev pub invariant-loop-tile_edge : goal.invariant-loop-tile_edge
invariant-loop-tile_edge l = l.uses.items ≡ flat_map use_of (map (λ (p : _). (p.0, p.1.now)) l.yielded)
