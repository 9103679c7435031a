use Rattle.std.proofs.Common.{◌≡◌, ◌-◌, ◌≤◌, ◌<◌, ℕ, slice_index}
use Rattle.price_workers.proofs.Common.{loads_of, KeepsFound, KeepsSetting, IsShare, LoadsBetween}
use Rattle.grid_graph.specs.Limits.{max_load}
use Rattle.price_workers.proofs.reading.load_all.Given as goal

-- the words so far were loaded
abbrev pub invariant-loop-word : goal.invariant-loop-word
invariant-loop-word l = record {
  most : l.word ≤ l.fn.words;
  read : LoadsBetween 0 l.word l.initial.share.party l.share.party;
  limit : (e : ℕ) → e < l.word → slice_index l.share.party.last e ≤ max_load;
  keeps : KeepsFound l.initial.share.party.last (loads_of l.initial.kept) l.share.party.last (loads_of l.kept);
  table : l.share.table ≡ l.initial.share.table;
  setting : KeepsSetting l.initial.kept l.kept;
  valid : 0 < l.word → IsShare l.share;
}

abbrev pub decreases-loop-word : goal.decreases-loop-word
decreases-loop-word l = l.fn.words - l.word
