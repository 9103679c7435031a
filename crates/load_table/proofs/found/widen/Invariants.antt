use Rattle.std.proofs.Common.{◌≡◌, ◌≤◌, ◌-◌, ℕ, length, slice_index}
use Rattle.std.specs.Prelude.{vec_capacity}
use Rattle.load_table.proofs.found.widen.Given as goal

-- the list became longer by zeros
abbrev pub invariant-loop-wide : goal.invariant-loop-wide
invariant-loop-wide l = record {
  same : (k : ℕ) → slice_index l.wide.items k ≡ slice_index l.initial.wide.items k;
  longer : length l.initial.wide.items ≤ length l.wide.items;
  capacity : vec_capacity l.wide ≡ vec_capacity l.initial.wide;
}

-- each turn takes one word of the room
abbrev pub decreases-loop-wide : goal.decreases-loop-wide
decreases-loop-wide l = l.words - length l.wide.items
