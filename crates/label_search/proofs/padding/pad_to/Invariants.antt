use Rattle.std.proofs.Common.{◌≡◌, ◌≤◌, ◌+◌, ◌-◌, ◌++◌, length, max, replicate}
use Rattle.std.specs.Prelude.{vec_capacity}
use Rattle.label_search.proofs.padding.pad_to.Given as goal

-- the list became longer by blank items
abbrev pub invariant-loop-blank : goal.invariant-loop-blank
invariant-loop-blank g l = record {
  items : l.items.items ≡ l.initial.items.items ++ replicate (length l.items.items - length l.initial.items.items) l.blank;
  longer : length l.initial.items.items ≤ length l.items.items;
  within : length l.items.items ≤ max (length l.initial.items.items) (l.index + 1);
  capacity : vec_capacity l.items ≡ vec_capacity l.initial.items;
}

-- each turn takes one item of the room
abbrev pub decreases-loop-blank : goal.decreases-loop-blank
decreases-loop-blank g l = l.index + 1 - length l.items.items
