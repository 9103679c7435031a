use Rattle.std.proofs.Common.{◌≤◌, ◌-◌, length}
use Rattle.negotiation.specs.Steps.{IsImproved}
use Rattle.negotiation.specs.Tools.{AreToolsFor}
use Rattle.negotiation.proofs.descending.run_pass.Given as goal

-- batches so far made nothing worse
abbrev pub invariant-batches : goal.invariant-batches
invariant-batches g l = record {
  improved : IsImproved l.design l.initial.state l.state;
  tools : AreToolsFor l.design l.tools;
  within : l.at ≤ length l.order;
}

abbrev pub decreases-batches : goal.decreases-batches
decreases-batches g l = length l.order - l.at
