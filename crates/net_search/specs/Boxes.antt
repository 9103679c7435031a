-- Boxes of tiles.
use Rattle.std.specs.Prelude.{ℕ, ◌+◌, ◌-◌, ◌≤◌, min, max}
use Rattle.grid_base.specs.Numbers.{cols, rows}
use Rattle.grid_base.specs.declared.size.Size.{Size}
use Rattle.net_search.specs.declared.frame.Frame.{Frame}
use Rattle.net_search.specs.declared.site.Site.{Site}

-- the tile of a site is in the box
abbrev pub IsIn : Frame → Site → Type 0
IsIn box site = (box.west ≤ site.col) × (site.col ≤ box.east) × (box.south ≤ site.row) × (site.row ≤ box.north)

-- all of a box is in another one
pub record IsWithin (inner outer : Frame) : Type 0 where
  pub west : outer.west ≤ inner.west
  pub east : inner.east ≤ outer.east
  pub south : outer.south ≤ inner.south
  pub north : inner.north ≤ outer.north

-- the least box with all of another one in it and all that is no further from a site than a margin
abbrev pub box_with : Frame → Site → ℕ → Frame
box_with box site margin = record {
  west = min box.west (site.col - margin);
  east = max box.east (min (site.col + margin) 4294967295);
  south = min box.south (site.row - margin);
  north = max box.north (min (site.row + margin) 4294967295);
}

-- a box with a margin
abbrev pub box_widened : Frame → ℕ → Frame
box_widened box margin = record {
  west = box.west - margin;
  east = min (box.east + margin) 4294967295;
  south = box.south - margin;
  north = min (box.north + margin) 4294967295;
}

-- what is in two boxes and in a grid
abbrev pub box_cut : Frame → Frame → Size → Frame
box_cut a b s = record {
  west = max a.west b.west;
  east = min (min a.east b.east) (cols s - 1);
  south = max a.south b.south;
  north = min (min a.north b.north) (rows s - 1);
}
