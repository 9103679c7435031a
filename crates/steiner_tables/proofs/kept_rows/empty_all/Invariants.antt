use Rattle.std.proofs.Common.{◌≡◌, ◌<◌, ℕ, [], length}
use Rattle.steiner_tables.specs.Keeping.{numbers_of, room_of}
use Rattle.steiner_tables.proofs.kept_rows.empty_all.Given as goal

abbrev pub invariant-loop-row : goal.invariant-loop-row
invariant-loop-row l = record {
  length : length l.rows ≡ length l.initial.rows;
  emptied : (j : ℕ) → j < l.row → numbers_of l.rows j ≡ [];
  rooms : (j : ℕ) → room_of l.rows j ≡ room_of l.initial.rows j;
}
