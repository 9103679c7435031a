-- How far the terminals of a net are spread, and how far it reaches.
use Rattle.std.specs.Prelude.{ℕ, ◌≡◌, ◌+◌, ◌-◌, ◌↔◌, if◌then◌else◌, leb, ltb, ◌^◌, List, Contains, length, map, max, min, slice_index_or, sum}
use Rattle.std.specs.List.{fold, range_with_len}
use Rattle.std.specs.List.Sorted.{IsStrictlyIncreasing}
use Rattle.grid_base.specs.declared.size.Size.{Size}
use Rattle.grid_base.specs.declared.vertex.Vertex.{Vertex}
use Rattle.grid_base.specs.Numbers.{col_of, layer_of, layers, row_of}
use Rattle.grid_graph.specs.Flat.{tile_of}
use Rattle.net_extents.specs.declared.lowest_layers.LowestLayers.{LowestLayers}
use Rattle.net_extents.specs.declared.spread.Spread.{Spread}

-- the numbers of a list, each once, from the least to the greatest
pub record AreEachOnce (given numbers : List ℕ) : Type 0 where
  pub rising : IsStrictlyIncreasing numbers
  pub same : (n : ℕ) → Contains numbers n ↔ Contains given n

-- the tiles, columns and rows of these terminals, and their lowest and highest layer
pub record IsSpreadOf (size : Size) (terminals : List Vertex) (s : Spread) : Type 0 where
  pub tiles : AreEachOnce (map (λ v. tile_of size v.0) terminals) s.tiles.items
  pub cols : AreEachOnce (map (λ v. col_of size v.0) terminals) s.cols.items
  pub rows : AreEachOnce (map (λ v. row_of size v.0) terminals) s.rows.items
  pub low : s.low ≡ fold (λ low v. min low (layer_of size v.0)) (layers size) terminals
  pub high : s.high ≡ fold (λ high v. max high (layer_of size v.0)) 0 terminals

-- from the first to the last of rising numbers
abbrev pub width_of : List ℕ → ℕ
width_of numbers = slice_index_or numbers (length numbers - 1) 0 - slice_index_or numbers 0 0

-- half the perimeter of the terminals' box
abbrev pub half_perimeter : Spread → ℕ
half_perimeter s = min (width_of s.cols.items + width_of s.rows.items) (2 ^ 32 - 1)

-- how many vias lead up from a layer that no terminal is above: one from each row, column or tile that can't be joined below
abbrev pub vias_above : LowestLayers → Spread → ℕ → ℕ
vias_above lowest s layer =
    (if leb lowest.along_x layer then length s.rows.items else (if leb lowest.along_y layer then length s.cols.items else length s.tiles.items))

-- the layer where there are several numbers, else the lowest one
abbrev pub layer_if_several : List ℕ → ℕ → ℕ
layer_if_several numbers layer = (if ltb 1 (length numbers) then layer else 0)

-- up to which layer a net has to get: to that of wires along x where it has several columns, along y where it has several rows
abbrev pub layer_to_reach : LowestLayers → Spread → ℕ
layer_to_reach lowest s = max (layer_if_several s.cols.items lowest.along_x) (layer_if_several s.rows.items lowest.along_y)

-- the vias between its terminals' layers, and those above
abbrev pub fewest_vias : LowestLayers → Spread → ℕ
fewest_vias lowest s =
    (s.high - s.low) + sum (map (vias_above lowest s) (range_with_len s.high (layer_to_reach lowest s - s.high)))
