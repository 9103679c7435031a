use Rattle.std.proofs.Common.{ℕ, ◌+◌, ◌<◌, ◌≤◌}
use Rattle.load_core.specs.Parties.{share_at}
use Rattle.tree_set.specs.Loads.{max_tree_load}
use Rattle.routing_tests.proofs.worker_tests.has_room.Given as goal

-- the words so far have room
abbrev pub invariant-loop-word : goal.invariant-loop-word
invariant-loop-word l = (w : ℕ) → w < l.word → share_at w l.share.party + max_tree_load ≤ l.share.party.allot
