use Rattle.std.proofs.Common.{◌≤◌, length}
use Rattle.overflow_bounds.proofs.node_tables.NodeTables.reserve.Given as goal

abbrev pub invariant-loop : goal.invariant-loop
invariant-loop l = l.counter ≤ length l.self.rows.items
