-- Tiles along one axis. Positions are whole numbers and may be negative.
use Rattle.std.specs.Prelude.{ℕ, ◌+◌, ◌-◌, ◌*◌, ◌/◌, ℤ, pos, ◌+ℤ◌, ◌-ℤ◌, nat_abs, Option, Some, None, cond, ltb, eqb, int_lt}

-- the tile at a distance above the lower border: the upper border line belongs to the last tile, and beyond it is none
abbrev pub tile_at : ℕ → ℕ → ℕ → Option ℕ
tile_at tile count distance =
    cond (ltb distance (count * tile)) (Some (distance / tile)) (cond (eqb distance (count * tile)) (Some (count - 1)) None)

-- the tile of position x, where `count` tiles stand side by side from the origin on
abbrev pub tile_index : ℤ → ℤ → ℕ → ℤ → Option ℕ
tile_index origin tile count x = cond (int_lt x origin) None (tile_at (nat_abs tile) count (nat_abs (x -ℤ origin)))

-- the position that is written for a tile: its lower border and half its size, rounded down
abbrev pub written_position : ℤ → ℤ → ℕ → ℤ
written_position origin tile index = origin +ℤ pos (index * nat_abs tile + nat_abs tile / 2)
