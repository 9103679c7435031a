use Rattle.std.proofs.Common.{◌≡◌, length}
use Rattle.sharing_phases.specs.PhaseWords.{IsRunSoFar}
use Rattle.sharing_phases.proofs.sharing.route_phases.Given as goal

-- so many phases have been
abbrev pub invariant-loop : goal.invariant-loop
invariant-loop g l = record {
  run : IsRunSoFar l.design l.plan.workers l.plan.budget l.table l.share l.phases.items;
  count : length l.phases.items ≡ l.counter;
}
