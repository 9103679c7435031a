-- Prices that are tried.
use Rattle.std.specs.Prelude.{ℕ, ◌/◌, cond, ltb}
use Rattle.edge_prices.specs.Limits.{max_price}

-- the greatest price in place of each that is a quarter of it at least, and 0 in place of each other one
abbrev pub flat_price : ℕ → ℕ
flat_price price = cond (ltb price (max_price / 4)) 0 max_price
