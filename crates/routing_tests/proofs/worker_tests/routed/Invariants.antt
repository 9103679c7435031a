use Rattle.std.proofs.Common.{◌≡◌}
use Rattle.routing_tests.proofs.worker_tests.routed.Given as goal

-- the share is one of the table
abbrev pub invariant-loop-net : goal.invariant-loop-net
invariant-loop-net l = l.share.table ≡ l.table-inside.table.shared.table_id
