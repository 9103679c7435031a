use Rattle.std.proofs.Common.{◌≡◌, ◌-◌, ◌<◌, ◌≤◌, ℕ, slice_index}
use Rattle.load_core.specs.Parties.{whole_allotment}
use Rattle.load_table.specs.Holdings.{IsShare}
use Rattle.load_table.specs.Runs.{LoadsBetween}
use Rattle.load_table.proofs.share.Share.reload.Given as goal

-- the words so far were loaded, and were as they were found last
abbrev pub invariant-loop-word : goal.invariant-loop-word
invariant-loop-word l = record {
  low : l.fn.first ≤ l.word;
  most : l.word ≤ l.fn.end;
  read : LoadsBetween l.fn.first l.word l.initial.self.party l.self.party;
  last : l.self.party.last ≡ l.initial.self.party.last;
  whole : (w : ℕ) → l.fn.first ≤ w → w < l.word → slice_index l.self.party.last w ≤ whole_allotment;
  table : l.self.table ≡ l.initial.self.table;
  share : l.fn.first < l.word → IsShare l.self;
}

abbrev pub decreases-loop-word : goal.decreases-loop-word
decreases-loop-word l = l.fn.end - l.word
