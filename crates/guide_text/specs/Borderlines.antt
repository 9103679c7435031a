-- Lines between tiles along one axis.
use Rattle.std.specs.Prelude.{ℕ, ◌≡◌, ◌≤◌, ◌<◌, ◌+◌, ◌*◌, ℤ, pos, ◌+ℤ◌, nat_abs}

-- the lower border of the tile with this number, from the lower border of tile 0 on
abbrev pub border : ℤ → ℤ → ℕ → ℤ
border origin tile index = origin +ℤ pos (index * nat_abs tile)

-- the tiles from the first to the last, some of so many along an axis, lie between these borders
pub record LieBetween (origin tile from to : ℤ) (count first last : ℕ) : Type 0 where
  pub order : first ≤ last
  pub within : last < count
  pub lower : border origin tile first ≡ from
  pub upper : border origin tile (last + 1) ≡ to
