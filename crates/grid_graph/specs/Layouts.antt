-- What a grid is made of, and the limits that it keeps.
use Rattle.std.specs.Prelude.{ℕ, ◌+◌, ◌≡◌, ◌≤◌, ◌<◌, ℤ, pos, neg_ℤ, ◌≤ℤ◌, List, length, slice_index}
use Rattle.grid_base.specs.declared.size.Size.{Size}
use Rattle.grid_base.specs.Numbers.{layers}
use Rattle.grid_graph.specs.declared.grid_parts.GridParts.{GridParts}
use Rattle.grid_graph.specs.Limits.{max_capacity, max_demand, max_number}

-- a size, one number per layer in each list, and the lower-left corner and the size of a tile, x before y
pub record Layout : Type 0 where
  pub size : Size
  pub vertical : List ℕ
  pub horizontal : List ℕ
  pub widths : List ℕ
  pub spacings : List ℕ
  pub origin : ℤ × ℤ
  pub tile : ℤ × ℤ

-- the layout that parts make
abbrev pub layout_of_parts : GridParts → Layout
layout_of_parts p =
    record { size = p.size; vertical = p.vertical.items; horizontal = p.horizontal.items; widths = p.widths.items; spacings = p.spacings.items; origin = p.origin; tile = p.tile }

-- a list of numbers up to a limit, one per layer
pub record IsPerLayer (s : Size) (limit : ℕ) (xs : List ℕ) : Type 0 where
  pub long : length xs ≡ layers s
  pub within : (l : ℕ) → slice_index xs l ≤ limit

-- a position in the range of the numbers of a design
pub record IsPosition (x : ℤ) : Type 0 where
  pub low : neg_ℤ (pos max_number) ≤ℤ x
  pub high : x ≤ℤ pos max_number

-- the width or the height of a tile
pub record IsTileSize (t : ℤ) : Type 0 where
  pub low : pos 1 ≤ℤ t
  pub high : t ≤ℤ pos max_number

-- all numbers are within the limits, and each layer's width and spacing together are a demand
pub record IsLayout (y : Layout) : Type 0 where
  pub along_y : IsPerLayer y.size max_capacity y.vertical
  pub along_x : IsPerLayer y.size max_capacity y.horizontal
  pub wide : IsPerLayer y.size max_demand y.widths
  pub spaced : IsPerLayer y.size max_demand y.spacings
  pub least_demand : (l : ℕ) → l < layers y.size → 1 ≤ slice_index y.widths l + slice_index y.spacings l
  pub greatest_demand : (l : ℕ) → l < layers y.size → slice_index y.widths l + slice_index y.spacings l ≤ max_demand
  pub left : IsPosition y.origin.0
  pub lower : IsPosition y.origin.1
  pub tile_width : IsTileSize y.tile.0
  pub tile_height : IsTileSize y.tile.1

-- the parts keep the limits
abbrev pub IsGridParts : GridParts → Type 0
IsGridParts p = IsLayout (layout_of_parts p)
