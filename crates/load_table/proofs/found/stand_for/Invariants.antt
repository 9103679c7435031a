use Rattle.std.proofs.Common.{◌≡◌, ◌<◌, ◌+◌, ℕ, slice_index, true}
use Rattle.load_table.proofs.found.stand_for.Given as goal

-- those so far stand for the values, if none differs
abbrev pub invariant-loop-k : goal.invariant-loop-k
invariant-loop-k l = record {
  each : l.same ≡ true → (j : ℕ) → j < l.k → slice_index l.fn.short (l.fn.first + j) ≡ slice_index l.fn.values j + 1;
}
