use Rattle.std.proofs.Common.{◌≡◌, [], All, length}
use Rattle.steiner_tables.specs.KeptNumbers.{kept_numbers}
use Rattle.steiner_tables.proofs.kept_rows.empty_rows.Given as goal

abbrev pub invariant-loop : goal.invariant-loop
invariant-loop l = record {
  count : length l.rows.items ≡ l.counter;
  empty : All (λ row. row ≡ kept_numbers l.room []) l.rows.items;
}
