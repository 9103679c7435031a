-- The limits of a text of edits that are none of a design.
use Rattle.std.specs.Prelude.{ℕ, ◌^◌}

-- the most edits
abbrev pub max_edits : ℕ
max_edits = 2 ^ 24
