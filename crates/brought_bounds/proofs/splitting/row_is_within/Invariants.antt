use Rattle.std.proofs.Common.{◌<◌, ◌≤◌, ◌+◌, ℕ}
use Rattle.brought_bounds.specs.TableWords.{table_number}
use Rattle.brought_bounds.proofs.splitting.row_is_within.Given as goal

abbrev pub invariant-loop-v : goal.invariant-loop-v
invariant-loop-v l = (v : ℕ) → v < l.v → table_number l.rows (l.one + l.other) v
    ≤ table_number l.rows l.one v + table_number l.rows l.other v
