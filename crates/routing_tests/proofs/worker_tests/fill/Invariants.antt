use Rattle.std.proofs.Common.{◌≡◌}
use Rattle.routing_tests.proofs.worker_tests.fill.Given as goal

-- the share is one of the table
abbrev pub invariant-loop-word : goal.invariant-loop-word
invariant-loop-word l = l.share.table ≡ l.table
