use Rattle.std.proofs.Common.{ℕ, Some, ◌≡◌, ◌<◌, ◌≤◌, length, slice_get}
use Rattle.net_search.specs.Targets.{steps_to}
use Rattle.net_search.specs.declared.target.Target.{Target}
use Rattle.tree_growth.proofs.targets.nearest_from.Given as goal

abbrev pub invariant-loop-at : goal.invariant-loop-at
invariant-loop-at l = record {
  within : l.nearest < length l.left;
  from : l.place ≤ l.nearest;
  nearest : (j : ℕ) (near far : Target) → l.place ≤ j → j < l.at → slice_get l.left l.nearest ≡ Some near → slice_get l.left j ≡ Some far → steps_to near ≤ steps_to far;
}
