use Rattle.std.proofs.Common.{take}
use Rattle.negotiation.specs.Searches.{AreFound}
use Rattle.negotiation.proofs.searching.search_in_turn.Given as goal

-- the nets so far were searched for
abbrev pub invariant-loop-net : goal.invariant-loop-net
invariant-loop-net l = AreFound l.sight.design.now (take l.net-index l.nets) l.found.items
