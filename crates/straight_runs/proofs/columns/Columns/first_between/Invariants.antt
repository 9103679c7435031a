use Rattle.std.proofs.Common.{◌≡◌}
use Rattle.straight_runs.proofs.columns.Columns.first_between.Given as goal

-- no run is met
abbrev pub invariant-loop : goal.invariant-loop
invariant-loop l = l.self.met ≡ l.initial.self.met
