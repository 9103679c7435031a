use Rattle.std.proofs.Common.{◌≡◌, ◌<◌, ℕ, length, slice_index}
use Rattle.groups.proofs.union_find.Groups.single.Given as goal

-- the numbers so far are their own parents
abbrev pub invariant-loop-i : goal.invariant-loop-i
invariant-loop-i l = record {
  long : length l.parents.items ≡ l.i;
  own : (k : ℕ) → k < l.i → slice_index l.parents.items k ≡ k;
}
