use Rattle.std.proofs.Common.{ℕ, ◌<◌, ◌≤◌, slice_index}
use Rattle.load_core.specs.Parties.{share_at}
use Rattle.routing_tests.proofs.worker_tests.has_all.Given as goal

-- the words so far have their loads
abbrev pub invariant-loop-word : goal.invariant-loop-word
invariant-loop-word l = (e : ℕ) → e < l.word → slice_index l.loads e ≤ share_at e l.share.party
