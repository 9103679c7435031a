use Rattle.std.proofs.Common.{◌<◌, ◌≤◌, ℕ}
use Rattle.label_search.specs.Sets.{RisesSlowly}
use Rattle.brought_bounds.specs.TableWords.{table_number}
use Rattle.brought_bounds.proofs.rising.rows_rise.Given as goal

abbrev pub invariant-loop-place : goal.invariant-loop-place
invariant-loop-place g l = (mask : ℕ) → 0 < mask → mask ≤ l.place
    → RisesSlowly l.size (g.W.Weights.pieces l.weights) (table_number l.rows mask)
