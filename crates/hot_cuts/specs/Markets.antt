-- Prices of links, in parts.
use Rattle.std.specs.Prelude.{ℕ, ◌*◌, ◌^◌, List, cond, min, slice_index_or}
use Rattle.edge_prices.specs.Limits.{max_price}
use Rattle.tile_graphs.specs.declared.part.Link.{Link}
use Rattle.tile_graphs.specs.Fullness.{in_word, is_above, no_total}

-- so many parts of a price are counted
abbrev pub parts_of_price : ℕ
parts_of_price = 2 ^ 16

-- the greatest price
abbrev pub top_price : ℕ
top_price = max_price * parts_of_price

-- no link
abbrev pub no_link : Link
no_link = record { one = 0; other = 0; total = no_total }

-- the greatest price where routes fill a link more than at a level, and else none
abbrev pub price_if_fuller : ℕ → List Link → ℕ → ℕ
price_if_fuller level links k = cond (is_above level (slice_index_or links k no_link).total) top_price 0

-- a given price in parts, at most the greatest
abbrev pub given_price : ℕ → ℕ
given_price price = min (in_word (price * parts_of_price)) top_price
