use Rattle.std.proofs.Common.{◌≡◌, drop}
use Rattle.routing_state.specs.States.{trees_of}
use Rattle.negotiation.specs.Offers.{with_all_found}
use Rattle.negotiation.specs.Searches.{AreFound}
use Rattle.negotiation.specs.Steps.{KeepsBest}
use Rattle.negotiation.specs.Tools.{AreToolsFor}
use Rattle.negotiation.proofs.negotiating.put_found.Given as goal

-- the nets so far have what was found, which was taken out of the list
abbrev pub invariant-loop-i : goal.invariant-loop-i
invariant-loop-i l = record {
  kept : KeepsBest l.design l.initial.rerouting l.rerouting;
  tools : AreToolsFor l.design l.tools;
  sets : with_all_found (trees_of l.initial.rerouting.state) l.nets l.initial.found.items ≡ with_all_found (trees_of l.rerouting.state) (drop l.i l.nets) (drop l.i l.found.items);
  found : AreFound l.design l.nets l.found.items;
}
