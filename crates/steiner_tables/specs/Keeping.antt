-- Lists of kept rows.
use Rattle.std.specs.Prelude.{ℕ, ◌≡◌, ◌<◌, ◌≤◌, List, length, get_or}
use Rattle.grid_base.specs.Limits.{max_vertices}
use Rattle.steiner_tables.specs.KeptNumbers.{KeptNumbers, no_numbers}
use Rattle.steiner_tables.specs.Masks.{proper_masks}
use Rattle.label_search.specs.Stamped.{far}

-- the numbers of a row
abbrev pub numbers_of : List KeptNumbers → ℕ → List ℕ
numbers_of rows row = (get_or rows row no_numbers).numbers

-- how many numbers a row has room for
abbrev pub room_of : List KeptNumbers → ℕ → ℕ
room_of rows row = (get_or rows row no_numbers).room

-- rows with one room, none of which has more numbers than it has room for
pub record AreKept (room : ℕ) (rows : List KeptNumbers) : Type 0 where
  pub small : room ≤ max_vertices
  pub few : length rows ≤ proper_masks
  pub rooms : (row : ℕ) → row < length rows → room_of rows row ≡ room
  pub within : (row : ℕ) → length (numbers_of rows row) ≤ room
  pub limits : (row i : ℕ) → get_or (numbers_of rows row) i far ≤ far
