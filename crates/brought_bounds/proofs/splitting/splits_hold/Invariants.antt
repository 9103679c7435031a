use Rattle.std.proofs.Common.{◌<◌, ◌≤◌, ℕ, length}
use Rattle.grid_base.specs.Numbers.{vertices}
use Rattle.brought_bounds.specs.TableWords.{table_number, SplitHolds}
use Rattle.brought_bounds.proofs.splitting.splits_hold.Given as goal

abbrev pub invariant-loop-place : goal.invariant-loop-place
invariant-loop-place l = (one other : ℕ) → 0 < one → one ≤ l.place → 0 < other → other ≤ length l.rows
    → SplitHolds (vertices l.size) (length l.rows) (table_number l.rows) one other
