use Rattle.negotiation.specs.Searches.{AreFound}
use Rattle.negotiation.specs.Steps.{IsImproved}
use Rattle.negotiation.proofs.descending.offer_found.Given as goal

-- the nets so far were offered what was found, which was taken out of the list
abbrev pub invariant-loop-i : goal.invariant-loop-i
invariant-loop-i l = record {
  improved : IsImproved l.design l.initial.state l.state;
  found : AreFound l.design l.nets l.found.items;
}
