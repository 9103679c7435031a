-- The parts of the text before the nets: the grid, its layers and its tiles.
use Rattle.std.specs.Prelude.{ℕ, Bool, ◌*◌, ◌&&◌, List, length, slice_index, if◌then◌else◌, nat_le, ℤ, pos, negsuc, Option, None, Some, Ok}
use Rattle.grid_base.specs.Limits.{max_layers, max_vertices}
use Rattle.design_tokens.specs.declared.input_fault.InputFault.TheVariants.{GridSize}
use Rattle.design_tokens.specs.declared.wanted.Wanted.{Wanted}
use Rattle.design_tokens.specs.declared.wanted.Wanted.TheVariants as wanted
use Rattle.design_tokens.specs.Parsing.{Reading, InputRead, ◌>>=◌, or_refuse, parts_at}
use Rattle.design_tokens.specs.Numbers.{word_at, number_at, capacity_at, width_at, spacing_at, side_at}

-- the size of a grid
pub record Extent : Type 0 where
  pub cols : ℕ
  pub rows : ℕ
  pub layers : ℕ

-- what stands before the nets; the lists have one number per layer
pub record Header : Type 0 where
  pub extent : Extent
  pub vertical : List ℕ
  pub horizontal : List ℕ
  pub widths : List ℕ
  pub spacings : List ℕ
  pub origin : ℤ × ℤ
  pub tile : ℤ × ℤ

-- no part of the grid is empty, and it is within the limits
abbrev pub is_size : Extent → Bool
is_size e = nat_le 1 e.cols && nat_le 1 e.rows && nat_le 1 e.layers && nat_le e.layers max_layers && nat_le (e.cols * e.rows * e.layers) max_vertices

-- the number, and 0 for one below it
abbrev pub natural : ℤ → ℕ
natural (pos n) = n
natural (negsuc n) = 0

-- the size that three numbers name
unfoldable pub extent_of : ℤ → ℤ → ℤ → Option Extent
extent_of cols rows layers =
    let extent : Extent = record { cols = natural cols; rows = natural rows; layers = natural layers } in
    if is_size extent then Some extent else None

-- `grid`, columns, rows, layers
unfoldable pub extent_at : Reading → InputRead Extent
extent_at r = do
  word ← word_at wanted.Grid r
  cols ← number_at word.1
  rows ← number_at cols.1
  layers ← number_at rows.1
  extent ← or_refuse (extent_of cols.0.value rows.0.value layers.0.value) (GridSize layers.0.at)
  Ok (extent, layers.1)

-- `vertical` or `horizontal`, `capacity`, a capacity per layer
unfoldable pub capacities_at : Wanted → ℕ → Reading → InputRead (List ℕ)
capacities_at direction layers r = do
  word ← word_at direction r
  word ← word_at wanted.Capacity word.1
  parts_at (λ _. capacity_at) 0 layers word.1

-- `minimum`, `width`, a width per layer
unfoldable pub widths_at : ℕ → Reading → InputRead (List ℕ)
widths_at layers r = do
  word ← word_at wanted.Minimum r
  word ← word_at wanted.Width word.1
  parts_at (λ _. width_at) 0 layers word.1

-- `minimum`, `spacing`, a spacing per layer, for layers of these widths
unfoldable pub spacings_at : List ℕ → Reading → InputRead (List ℕ)
spacings_at widths r = do
  word ← word_at wanted.Minimum r
  word ← word_at wanted.Spacing word.1
  parts_at (λ layer. spacing_at (slice_index widths layer)) 0 (length widths) word.1

-- `via`, `spacing`, a number per layer, which is not used
unfoldable pub vias_at : ℕ → Reading → InputRead (Unit {0})
vias_at layers r = do
  word ← word_at wanted.Via r
  word ← word_at wanted.Spacing word.1
  unused ← parts_at (λ _. number_at) 0 layers word.1
  Ok (tt, unused.1)

-- the lower left corner: x, y
unfoldable pub origin_at : Reading → InputRead (ℤ × ℤ)
origin_at r = do
  x ← number_at r
  y ← number_at x.1
  Ok ((x.0.value, y.0.value), y.1)

-- the size of a tile: width, height
unfoldable pub tile_size_at : Reading → InputRead (ℤ × ℤ)
tile_size_at r = do
  width ← side_at r
  height ← side_at width.1
  Ok ((width.0, height.0), height.1)

-- all that stands before the nets
unfoldable pub header_at : Reading → InputRead Header
header_at r = do
  extent ← extent_at r
  vertical ← capacities_at wanted.Vertical extent.0.layers extent.1
  horizontal ← capacities_at wanted.Horizontal extent.0.layers vertical.1
  widths ← widths_at extent.0.layers horizontal.1
  spacings ← spacings_at widths.0 widths.1
  vias ← vias_at extent.0.layers spacings.1
  origin ← origin_at vias.1
  tile ← tile_size_at origin.1
  Ok (record { extent = extent.0; vertical = vertical.0; horizontal = horizontal.0; widths = widths.0; spacings = spacings.0; origin = origin.0; tile = tile.0 }, tile.1)
