-- Prices of resources, after Müller, Radke and Vygen, "Faster min-max resource sharing in theory and practice" (2011):
-- the more of a resource is in use, the higher its price.
use Rattle.std.specs.Prelude.{ℕ, zero, suc, ◌+◌, ◌-◌, ◌*◌, ◌/◌, cond, ltb}
use Rattle.edge_prices.specs.Limits.{last_index}

-- the price that follows in the table: a fortieth more, rounded down, and 1
abbrev pub next_price : ℕ → ℕ
next_price p = p + p / 40 + 1

-- the price table: it begins with 1
unfoldable pub price : ℕ → ℕ
price zero = 1
price (suc i) = next_price (price i)

-- the index of a resource: how many eighths of its capacity are in use at this scale, rounded down
abbrev pub index : ℕ → ℕ → ℕ → ℕ
index capacity load scale = 8 * scale * load / capacity

-- the same, and 0 of what is no resource, which can carry nothing
abbrev pub index_or_zero : ℕ → ℕ → ℕ → ℕ
index_or_zero capacity load scale = cond (ltb 0 capacity) (index capacity load scale) 0

-- the price of a resource by its index: the last of the table at the greatest index, one place before it for each step
-- below, and the first of the table at all lower indices
abbrev pub price_by : ℕ → ℕ → ℕ
price_by top index = price (last_index - (top - index))

-- the same, and 0 of what is no resource
abbrev pub price_or_zero : ℕ → ℕ → ℕ → ℕ
price_or_zero capacity top index = cond (ltb 0 capacity) (price_by top index) 0
