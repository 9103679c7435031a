use Rattle.std.proofs.Common.{ℕ, ◌≡◌, ◌<◌, None, length}
use Rattle.grid_base.specs.Lists.{At}
use Rattle.least_weights.specs.declared.kept_costs.KeptCost.{KeptCost}
use Rattle.least_weights.proofs.kept_costs.KeptCosts.forget.Given as goal

abbrev pub invariant-loop-place : goal.invariant-loop-place
invariant-loop-place l = record {
  some : 0 < length l.self.entries.items;
  none : (k : ℕ) (entry : KeptCost) → k < l.place → At l.self.entries.items k entry → entry.cost ≡ None;
}
