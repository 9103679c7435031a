use Rattle.std.proofs.Common.{take}
use Rattle.eco_route.specs.NetIndices.{ids_of, IsIndexOf}
use Rattle.eco_route.proofs.net_index.NetIndex.of.Given as goal

-- the index of the nets so far
abbrev pub invariant-loop-net : goal.invariant-loop-net
invariant-loop-net l = IsIndexOf (ids_of (take l.net-index l.nets)) l.index
