-- Settings of rerouting.
use Rattle.std.specs.Prelude.{◌≤◌}
use Rattle.negotiation.specs.declared.settings.RerouteSettings.{RerouteSettings}
use Rattle.negotiation.specs.Limits.{max_rounds, max_passes, max_workers}

-- each number is within its limits
pub record AreRerouteSettings (s : RerouteSettings) : Type 0 where
  pub rounds : s.rounds ≤ max_rounds
  pub passes : s.passes ≤ max_passes
  pub some_workers : 1 ≤ s.workers
  pub workers : s.workers ≤ max_workers
