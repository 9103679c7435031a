use Rattle.std.proofs.Common.{◌+◌, ◌<◌, ◌≤◌, ℕ, get_or}
use Rattle.overflow_bounds.specs.NodeRows.{LowersTo}
use Rattle.overflow_bounds.proofs.starting.lower_to_sums.Given as goal

abbrev pub invariant-loop-n : goal.invariant-loop-n
invariant-loop-n l = record {
  lowered : LowersTo l.initial.row l.row;
  sums : (n : ℕ) → n < l.n → get_or l.row n 0 ≤ get_or l.one n 0 + get_or l.other n 0;
}
