-- How full tile edges are: what their edges carry, and what they can carry. A sum ends at the greatest number of 64 bits.
use Rattle.std.specs.Prelude.{ℕ, ◌+◌, ◌-◌, ◌*◌, ◌/◌, ◌^◌, ◌==◌, ◌&&◌, ◌||◌, Bool, cond, ltb, leb, min}
use Rattle.tile_graphs.specs.declared.tile_use.TileTotal.{TileTotal}

-- a number of 64 bits: the greatest one in place of each that is greater
abbrev pub in_word : ℕ → ℕ
in_word n = min n (2 ^ 64 - 1)

-- so much stands for a tile edge whose capacity is just in use
abbrev pub just_full : ℕ
just_full = 2 ^ 20

-- no edges
abbrev pub no_total : TileTotal
no_total = record { load = 0; capacity = 0 }

-- with so much more
abbrev pub with_more : TileTotal → ℕ → ℕ → TileTotal
with_more total load capacity = record { load = in_word (total.load + load); capacity = in_word (total.capacity + capacity) }

-- what is carried beyond the capacity
abbrev pub excess_of : TileTotal → ℕ
excess_of total = total.load - total.capacity

-- the load in parts of `just_full`, as a number of 64 bits, by the capacity; 0 without capacity
abbrev pub fullness_of : TileTotal → ℕ
fullness_of total = in_word (total.load * just_full) / total.capacity

-- more is carried than at a level
abbrev pub is_above : ℕ → TileTotal → Bool
is_above level total = ltb (total.capacity * level) (total.load * just_full)

-- there is capacity, and it is filled to a level at least
abbrev pub is_filled_to : ℕ → TileTotal → Bool
is_filled_to level total = ltb 0 total.capacity && leb level (fullness_of total)

-- the first one is fuller, where one without capacity is less full than each that has some
abbrev pub is_fuller_than : TileTotal → TileTotal → Bool
is_fuller_than one other = ltb 0 one.capacity && ((other.capacity == 0) || ltb (fullness_of other) (fullness_of one))

-- the fuller one of two, and the first one where none is
abbrev pub fuller_of : TileTotal → TileTotal → TileTotal
fuller_of one other = cond (is_fuller_than other one) other one
