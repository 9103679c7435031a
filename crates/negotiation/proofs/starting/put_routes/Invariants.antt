use Rattle.std.proofs.Common.{take}
use Rattle.routing_state.specs.States.{trees_of}
use Rattle.negotiation.specs.Kept.{AreKeptBut}
use Rattle.negotiation.specs.Searches.{AreFound}
use Rattle.negotiation.specs.Steps.{IsRenewed}
use Rattle.negotiation.proofs.starting.put_routes.Given as goal

-- the nets so far have routes, and what was found was taken out of the list
abbrev pub invariant-loop-i : goal.invariant-loop-i
invariant-loop-i l = record {
  renewed : IsRenewed l.design (take l.i l.nets) l.initial.state l.state;
  kept : AreKeptBut (take l.i l.nets) (trees_of l.initial.state) (trees_of l.state);
  found : AreFound l.design l.nets l.found.items;
}
