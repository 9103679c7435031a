-- Values in 32 bits, and in full where they don't fit.
use Rattle.std.specs.Prelude.{ℕ, zero, suc, ◌≡◌, ◌<◌, List, map, length, slice_index}
use Rattle.std.specs.List.{range_with_len}

-- the value that a number stands for: 1 less than it, or for 0 the one in full
abbrev pub stands_for : ℕ → ℕ → ℕ
stands_for zero full = full
stands_for (suc value) full = value

-- the value of a word, by the list of what stands for values and by the list of those in full
abbrev pub found_at : List ℕ → List ℕ → ℕ → ℕ
found_at short wide k = stands_for (slice_index short k) (slice_index wide k)

-- the values of all words
abbrev pub found_values : List ℕ → List ℕ → List ℕ
found_values short wide = map (found_at short wide) (range_with_len 0 (length short))

-- the values that are not short have places in the list of those in full
abbrev pub HavePlaces : List ℕ → List ℕ → Type 0
HavePlaces short wide = (k : ℕ) → k < length short → slice_index short k ≡ 0 → k < length wide
