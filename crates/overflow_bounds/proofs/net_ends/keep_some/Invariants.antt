use Rattle.std.proofs.Common.{◌≡◌, ℕ, ◌+◌, ◌≤◌, length}
use Rattle.std.specs.Prelude.{Contains}
use Rattle.overflow_bounds.specs.NodeTables.{max_ends}
use Rattle.overflow_bounds.proofs.net_ends.keep_some.Given as goal

-- all that the list has was there
abbrev pub invariant-loop-place : goal.invariant-loop-place
invariant-loop-place l = record {
  long : length l.ends.items ≡ l.last + 1;
  many : max_ends ≤ l.last;
  within : (n : ℕ) → Contains l.ends.items n → Contains l.initial.ends.items n;
}
