use Rattle.std.proofs.Common.{◌≡◌, length}
use Rattle.tile_graphs.proofs.regions.Regions.greatest.Given as goal

-- there are as many tiles
abbrev pub invariant-loop-tile : goal.invariant-loop-tile
invariant-loop-tile l = length l.self.groups.parents.items ≡ length l.initial.self.groups.parents.items
