use Rattle.std.proofs.Common.{◌≡◌, ◌<◌, ◌≤◌, ℕ, slice_index}
use Rattle.load_core.specs.Parties.{whole_allotment}
use Rattle.load_table.specs.Holdings.{IsShare}
use Rattle.load_table.specs.Runs.{LoadsBetween}
use Rattle.load_table.proofs.share.Share.load_each.Given as goal

-- the words so far were loaded
abbrev pub invariant-loop-word : goal.invariant-loop-word
invariant-loop-word l = record {
  low : l.fn.first ≤ l.word;
  read : LoadsBetween l.fn.first l.word l.initial.self.party l.self.party;
  whole : (w : ℕ) → l.fn.first ≤ w → w < l.word → slice_index l.self.party.last w ≤ whole_allotment;
  behind : (w : ℕ) → l.word ≤ w → slice_index l.self.party.last w ≡ slice_index l.initial.self.party.last w;
  table : l.self.table ≡ l.initial.self.table;
  share : l.fn.first < l.word → IsShare l.self;
}
