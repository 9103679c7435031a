use Rattle.std.proofs.Common.{◌≡◌, ◌<◌, ℕ, length, slice_index}
use Rattle.routing_stages.proofs.shares.write_shares.Given as goal

-- the words so far are written
abbrev pub invariant-loop-word : goal.invariant-loop-word
invariant-loop-word l = record {
  written : (k : ℕ) → k < l.word → slice_index l.loads k ≡ slice_index l.share.party.shares k;
  long : length l.loads ≡ length l.initial.loads;
}
