use Rattle.std.proofs.Common.{◌+◌, ◌≤◌, length}
use Rattle.overflow_bounds.specs.NodeTables.{IsNodeTable}
use Rattle.overflow_bounds.specs.NodeRows.{AreBefore, number_of_mask}
use Rattle.overflow_bounds.proofs.node_tables.NodeTables.make_rows.Given as goal

abbrev pub invariant-loop-made : goal.invariant-loop-made
invariant-loop-made l = record {
  rows : l.last ≤ length l.self.rows.items;
  long : AreBefore l.nodes (l.made + 1) l.self.rows.items;
  holds : IsNodeTable l.nodes l.links l.ends l.made (number_of_mask l.self.rows.items);
}
