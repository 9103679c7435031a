use Rattle.net_extents.proofs.Lowest.{AreLowest}
use Rattle.net_extents.proofs.lowest_layers.LowestLayers.of.Given as goal

-- the lowest of the edge numbers so far
abbrev pub invariant-loop-number : goal.invariant-loop-number
invariant-loop-number l = AreLowest l.grid l.number l.lowest
