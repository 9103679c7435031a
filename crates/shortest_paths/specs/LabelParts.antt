-- What labels are made of.
use Rattle.std.specs.Prelude.{ℕ, ◌≡◌, ◌≤◌}
use Rattle.grid_base.specs.Numbers.{vertices}
use Rattle.steiner_tables.specs.declared.kept_rows.KeptRows.{KeptRows}
use Rattle.label_search.specs.declared.row.Row.{Row}
use Rattle.steiner_tables.specs.Kept.{kept_len}
use Rattle.label_search.specs.Rows.{size_in}

-- each row has room for all vertices, and numbers of found ones alone
pub record ArePartsOfLabels (row : Row) (rows : KeptRows) : Type 0 where
  pub room : rows.room ≡ vertices (size_in row)
  pub found : (mask : ℕ) → kept_len rows mask ≤ row.found.len
