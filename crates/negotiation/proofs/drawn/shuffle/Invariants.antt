use Rattle.std.proofs.Common.{◌≤◌}
use Rattle.std.specs.List.Sorted.{IsPermutation}
use Rattle.negotiation.proofs.drawn.shuffle.Given as goal

-- the nets are the same in another order, and a word was drawn for each place so far
abbrev pub invariant-loop-last : goal.invariant-loop-last
invariant-loop-last l = record {
  same : IsPermutation l.initial.nets l.nets;
  drawn : l.words.count ≤ l.last;
}
