use Rattle.std.proofs.Common.{◌-◌, ◌≤◌}
use Rattle.price_workers.proofs.Common.{loads_of, IsFoundBetween, KeepsFound, KeepsSetting}
use Rattle.price_workers.proofs.reading.settle_all.Given as goal

-- the words so far are kept as they were found last, and so are those that were before
abbrev pub invariant-loop-word : goal.invariant-loop-word
invariant-loop-word l = record {
  most : l.word ≤ l.fn.words;
  found : IsFoundBetween 0 l.word l.fn.share.party.last (loads_of l.kept);
  keeps : KeepsFound l.fn.share.party.last (loads_of l.initial.kept) l.fn.share.party.last (loads_of l.kept);
  setting : KeepsSetting l.initial.kept l.kept;
}

abbrev pub decreases-loop-word : goal.decreases-loop-word
decreases-loop-word l = l.fn.words - l.word
