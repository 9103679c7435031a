-- The limits of a design text that are none of its grid.
use Rattle.std.specs.Prelude.{ℕ, ◌^◌}

-- the most bytes of a text
abbrev pub max_bytes : ℕ
max_bytes = 2 ^ 30

-- the most adjustments
abbrev pub max_adjustments : ℕ
max_adjustments = 2 ^ 23
