-- Sets of small numbers, by the bits of words.
use Rattle.std.specs.Prelude.{ℕ, ◌/◌, ◌%◌, ◌^◌, ◌==◌, Bool, List, [], ◌∷◌, Vec, bit_and, not, slice_index_or}
use Rattle.std.specs.declared.alloc.Global.{Global}
use Rattle.straight_runs.specs.declared.marks.Marks.{Marks}

-- the words of the first row, with a bit for each number
abbrev pub first_row : List (Vec ℕ Global) → List ℕ
first_row [] = []
first_row (row ∷ rows) = row.items

-- the number is in the set
abbrev pub is_marked : Marks → ℕ → Bool
is_marked marks number = not (bit_and (slice_index_or (first_row marks.rows.items) (number / 64) 0) (2 ^ (number % 64)) == 0)
