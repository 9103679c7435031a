use Rattle.std.proofs.Common.{◌≡◌, ◌<◌}
use Rattle.grid_tests.proofs.load_table_tests.work.Given as goal

abbrev pub invariant-loop-word : goal.invariant-loop-word
invariant-loop-word l = (l.share.table ≡ l.table) × (1 < l.table.words)

abbrev pub invariant-loop : goal.invariant-loop
invariant-loop l = (l.share.table ≡ l.table) × (1 < l.table.words)
