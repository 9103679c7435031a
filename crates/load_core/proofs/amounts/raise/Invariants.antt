use Rattle.std.proofs.Common.{◌≡◌, ℕ, ◌+◌, ◌<◌, ◌≤◌, get_or}
use Rattle.load_core.proofs.amounts.raise.Given as goal

abbrev pub invariant-loop-at : goal.invariant-loop-at
invariant-loop-at l = record {
  done : (k : ℕ) → k < l.at → get_or l.amounts k 0 ≡ get_or l.initial.amounts k 0 + get_or l.more k 0;
  still : (k : ℕ) → l.at ≤ k → get_or l.amounts k 0 ≡ get_or l.initial.amounts k 0;
}
