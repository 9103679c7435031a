use Rattle.std.proofs.Common.{◌≡◌, ◌<◌, ◌≤◌, ℕ, length, get_or}
use Rattle.label_search.specs.Stamped.{far}
use Rattle.label_search.proofs.row.erase.Given as goal

abbrev pub invariant-loop-i : goal.invariant-loop-i
invariant-loop-i l = record {
  length : length l.numbers ≡ length l.initial.numbers;
  erased : (j : ℕ) → j < l.i → get_or l.numbers j far ≡ far;
  beyond : (j : ℕ) → l.fn.len ≤ j → get_or l.numbers j far ≡ far;
}
