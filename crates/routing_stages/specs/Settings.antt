-- Settings of a run.
use Rattle.std.specs.Prelude.{ℕ, ◌/◌, ◌≤◌, min}
use Rattle.edge_prices.specs.Limits.{IsBudget}
use Rattle.routing_stages.specs.declared.settings.Settings.{Settings}
use Rattle.routing_stages.specs.Limits.{max_workers, max_phases, max_rounds, max_labelled}

-- each number is within its limits
pub record AreSettings (s : Settings) : Type 0 where
  pub some_workers : 1 ≤ s.workers
  pub workers : s.workers ≤ max_workers
  pub some_phases : 1 ≤ s.phases
  pub phases : s.phases ≤ max_phases
  pub rounds : s.rounds ≤ max_rounds
  pub budget : IsBudget s.budget

-- how many workers run, where so many are asked for, on a grid of so many vertices
abbrev pub workers_in_use : ℕ → ℕ → ℕ
workers_in_use workers vertices = min workers (max_labelled / vertices)
