use Rattle.std.proofs.Common.{◌≤◌, ◌-◌, take, length}
use Rattle.routing_state.specs.States.{trees_of}
use Rattle.negotiation.specs.Kept.{AreKeptBut}
use Rattle.negotiation.specs.Steps.{IsRenewed}
use Rattle.negotiation.specs.Tools.{AreToolsFor}
use Rattle.negotiation.proofs.starting.start.Given as goal

-- the nets so far have routes
abbrev pub invariant-batches : goal.invariant-batches
invariant-batches g l = record {
  renewed : IsRenewed l.design (take l.at l.order.items) l.initial.state l.state;
  kept : AreKeptBut (take l.at l.order.items) (trees_of l.initial.state) (trees_of l.state);
  tools : AreToolsFor l.design l.tools;
  within : l.at ≤ length l.order.items;
}

abbrev pub decreases-batches : goal.decreases-batches
decreases-batches g l = length l.order.items - l.at
