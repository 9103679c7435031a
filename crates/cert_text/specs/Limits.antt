-- The limits of a certificate that are none of its fractions and its budget.
use Rattle.std.specs.Prelude.{ℕ, ◌^◌, ◌-◌}

-- the greatest number of nets, of forced nets and of prices
abbrev pub max_stated_count : ℕ
max_stated_count = 2 ^ 32 - 1

-- the greatest overflow and wirelength
abbrev pub max_stated_total : ℕ
max_stated_total = 2 ^ 63 - 1

-- the greatest price
abbrev pub max_stated_price : ℕ
max_stated_price = 2 ^ 15
