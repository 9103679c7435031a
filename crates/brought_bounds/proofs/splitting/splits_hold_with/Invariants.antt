use Rattle.std.proofs.Common.{◌<◌, ◌≤◌, ℕ, length}
use Rattle.grid_base.specs.Numbers.{vertices}
use Rattle.brought_bounds.specs.TableWords.{table_number, SplitHolds}
use Rattle.brought_bounds.proofs.splitting.splits_hold_with.Given as goal

abbrev pub invariant-loop-place : goal.invariant-loop-place
invariant-loop-place l = (other : ℕ) → 0 < other → other ≤ l.place
    → SplitHolds (vertices l.size) (length l.rows) (table_number l.rows) l.one other
