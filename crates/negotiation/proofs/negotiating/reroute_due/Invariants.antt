use Rattle.std.proofs.Common.{◌≤◌, ◌-◌, length}
use Rattle.negotiation.specs.Steps.{KeepsBest}
use Rattle.negotiation.specs.Tools.{AreToolsFor}
use Rattle.negotiation.proofs.negotiating.reroute_due.Given as goal

-- batches so far changed what is now
abbrev pub invariant-batches : goal.invariant-batches
invariant-batches g l = record {
  kept : KeepsBest l.design l.initial.rerouting l.rerouting;
  tools : AreToolsFor l.design l.tools;
  within : l.at ≤ length l.order;
}

abbrev pub decreases-batches : goal.decreases-batches
decreases-batches g l = length l.order - l.at
