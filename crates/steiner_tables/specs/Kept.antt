-- The numbers of kept rows.
use Rattle.std.specs.Prelude.{ℕ, ◌-◌, length, get_or}
use Rattle.steiner_tables.specs.declared.kept_rows.KeptRows.{KeptRows}
use Rattle.steiner_tables.specs.Keeping.{numbers_of}
use Rattle.label_search.specs.Stamped.{far}

-- for how many masks there is a row
abbrev pub masks_in : KeptRows → ℕ
masks_in k = length k.rows.items

-- how many numbers the row of a mask has
abbrev pub kept_len : KeptRows → ℕ → ℕ
kept_len k mask = length (numbers_of k.rows.items (mask - 1))

-- the number of a mask at an index
abbrev pub kept_in : KeptRows → ℕ → ℕ → ℕ
kept_in k mask i = get_or (numbers_of k.rows.items (mask - 1)) i far
