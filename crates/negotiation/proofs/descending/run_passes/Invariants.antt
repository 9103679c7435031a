use Rattle.std.proofs.Common.{◌≡◌}
use Rattle.negotiation.specs.Steps.{IsImproved}
use Rattle.negotiation.specs.Tools.{AreToolsFor}
use Rattle.negotiation.proofs.descending.run_passes.Given as goal

-- passes so far made nothing worse
abbrev pub invariant-loop-pass : goal.invariant-loop-pass
invariant-loop-pass g l = record {
  improved : IsImproved l.design l.initial.state l.state;
  idle : l.passes ≡ 0 → l.state ≡ l.initial.state;
  tools : AreToolsFor l.design l.tools;
}
