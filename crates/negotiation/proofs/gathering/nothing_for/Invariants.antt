use Rattle.std.proofs.Common.{take}
use Rattle.negotiation.specs.Searches.{AreFound}
use Rattle.negotiation.proofs.gathering.nothing_for.Given as goal

-- nothing for each of the nets so far
abbrev pub invariant-loop-net : goal.invariant-loop-net
invariant-loop-net l = AreFound l.sight.design.now (take l._net-index l.nets) l.found.items
