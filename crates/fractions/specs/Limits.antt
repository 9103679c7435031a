-- The limits of fractions.
use Rattle.std.specs.Prelude.{ℕ, ◌^◌}

-- every numerator is below it
abbrev pub numerator_limit : ℕ
numerator_limit = 2 ^ 70

-- the greatest denominator
abbrev pub max_denominator : ℕ
max_denominator = 2 ^ 58
