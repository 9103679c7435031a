use Rattle.std.proofs.Common.{◌≡◌, ◌≤◌, ◌-◌}
use Rattle.routing_state.specs.Best.{best_of}
use Rattle.routing_state.specs.States.{totals_in, trees_of}
use Rattle.negotiation.specs.Steps.{IsNegotiated}
use Rattle.negotiation.specs.Tools.{AreToolsFor}
use Rattle.negotiation.proofs.negotiating.negotiate.Given as goal

-- rounds so far changed what is now and what is best
abbrev pub invariant-rounds : goal.invariant-rounds
invariant-rounds g l = record {
  negotiated : IsNegotiated l.design l.fn.state l.rerouting;
  idle : l.done ≡ 0 → best_of l.rerouting ≡ trees_of l.fn.state;
  tools : AreToolsFor l.design l.tools;
  stale : l.stale ≤ l.done;
  low : l.rerouting.best.overflow ≤ (totals_in l.rerouting.state).overflow;
  within : l.done ≤ l.rounds;
}

abbrev pub decreases-rounds : goal.decreases-rounds
decreases-rounds g l = l.rounds - l.done
