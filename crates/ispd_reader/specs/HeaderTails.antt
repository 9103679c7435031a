-- What stands before the nets, from each of its parts on.
use Rattle.std.specs.Prelude.{ℕ, ◌-◌, List, length, slice_index, ℤ, pos, [], Ok}
use Rattle.text_scan.proofs.InTurn.{left_behind}
use Rattle.text_scan.proofs.Parts.{with_parts}
use Rattle.design_tokens.specs.declared.input_fault.InputFault.TheVariants.{GridSize}
use Rattle.ispd_reader.specs.declared.layer_list.LayerList.{LayerList}
use Rattle.ispd_reader.specs.declared.layer_list.LayerList.TheVariants.{Vertical, Horizontal, Widths, Spacings, Vias}
use Rattle.design_tokens.specs.declared.wanted.Wanted.{Wanted}
use Rattle.design_tokens.specs.declared.wanted.Wanted.TheVariants as wanted
use Rattle.design_tokens.specs.Parsing.{Reading, InputRead, ◌>>=◌, or_refuse, parts_at}
use Rattle.design_tokens.specs.Numbers.{word_at, number_at, capacity_at, width_at, spacing_at, side_at}
use Rattle.ispd_reader.specs.Header.{Extent, Header, extent_of, capacities_at, widths_at, spacings_at, vias_at, origin_at, tile_size_at}

-- ---- the size, from each of its numbers on

abbrev pub layers_left : ℤ → ℤ → Reading → InputRead Extent
layers_left cols rows r = do
  layers ← number_at r
  extent ← or_refuse (extent_of cols rows layers.0.value) (GridSize layers.0.at)
  Ok (extent, layers.1)

abbrev pub rows_left : ℤ → Reading → InputRead Extent
rows_left cols r = do
  rows ← number_at r
  layers_left cols rows.0.value rows.1

abbrev pub cols_left : Reading → InputRead Extent
cols_left r = do
  cols ← number_at r
  rows_left cols.0.value cols.1

-- ---- the corner and the size of a tile, from their second number on

abbrev pub lower_left : ℤ → Reading → InputRead (ℤ × ℤ)
lower_left x r = do
  y ← number_at r
  Ok ((x, y.0.value), y.1)

abbrev pub height_left : ℤ → Reading → InputRead (ℤ × ℤ)
height_left width r = do
  height ← side_at r
  Ok ((width, height.0), height.1)

-- ---- the whole, from each of its parts on, with what was read so far

-- with the size of a tile, which ends it
abbrev pub with_tile : Header → InputRead (ℤ × ℤ) → InputRead Header
with_tile so_far tile = tile >>= λ tile. Ok (record so_far { tile = tile.0 }, tile.1)

abbrev pub from_tile : Header → Reading → InputRead Header
from_tile so_far r = with_tile so_far (tile_size_at r)

abbrev pub with_origin : Header → InputRead (ℤ × ℤ) → InputRead Header
with_origin so_far origin = origin >>= λ origin. from_tile (record so_far { origin = origin.0 }) origin.1

abbrev pub from_origin : Header → Reading → InputRead Header
from_origin so_far r = with_origin so_far (origin_at r)

abbrev pub with_vias : Header → InputRead (Unit {0}) → InputRead Header
with_vias so_far vias = vias >>= λ vias. from_origin so_far vias.1

abbrev pub from_vias : Header → Reading → InputRead Header
from_vias so_far r = with_vias so_far (vias_at so_far.extent.layers r)

abbrev pub with_spacings : Header → InputRead (List ℕ) → InputRead Header
with_spacings so_far spacings = spacings >>= λ spacings. from_vias (record so_far { spacings = spacings.0 }) spacings.1

abbrev pub from_spacings : Header → Reading → InputRead Header
from_spacings so_far r = with_spacings so_far (spacings_at so_far.widths r)

abbrev pub with_widths : Header → InputRead (List ℕ) → InputRead Header
with_widths so_far widths = widths >>= λ widths. from_spacings (record so_far { widths = widths.0 }) widths.1

abbrev pub from_widths : Header → Reading → InputRead Header
from_widths so_far r = with_widths so_far (widths_at so_far.extent.layers r)

abbrev pub with_horizontal : Header → InputRead (List ℕ) → InputRead Header
with_horizontal so_far horizontal = horizontal >>= λ horizontal. from_widths (record so_far { horizontal = horizontal.0 }) horizontal.1

abbrev pub from_horizontal : Header → Reading → InputRead Header
from_horizontal so_far r = with_horizontal so_far (capacities_at wanted.Horizontal so_far.extent.layers r)

abbrev pub with_vertical : Header → InputRead (List ℕ) → InputRead Header
with_vertical so_far vertical = vertical >>= λ vertical. from_horizontal (record so_far { vertical = vertical.0 }) vertical.1

abbrev pub from_vertical : Header → Reading → InputRead Header
from_vertical so_far r = with_vertical so_far (capacities_at wanted.Vertical so_far.extent.layers r)

-- nothing but the size
abbrev pub only_extent : Extent → Header
only_extent e = record { extent = e; vertical = []; horizontal = []; widths = []; spacings = []; origin = (pos 0, pos 0); tile = (pos 0, pos 0) }

abbrev pub with_extent : InputRead Extent → InputRead Header
with_extent extent = extent >>= λ extent. from_vertical (only_extent extent.0) extent.1

-- ---- a list, from its first word on, from its second, and from one of its numbers on

abbrev pub list_left : LayerList → Header → Reading → InputRead Header
list_left Vertical so_far r = from_vertical so_far r
list_left Horizontal so_far r = from_horizontal so_far r
list_left Widths so_far r = from_widths so_far r
list_left Spacings so_far r = from_spacings so_far r
list_left Vias so_far r = from_vias so_far r

-- a word, and so many numbers
abbrev named_parts : {A : Type 0} → Wanted → (ℕ → Reading → InputRead A) → ℕ → Reading → InputRead (List A)
named_parts word part count r = do
  word ← word_at word r
  parts_at part 0 count word.1

abbrev pub second_left : LayerList → Header → Reading → InputRead Header
second_left Vertical so_far r = with_vertical so_far (named_parts wanted.Capacity (λ _. capacity_at) so_far.extent.layers r)
second_left Horizontal so_far r = with_horizontal so_far (named_parts wanted.Capacity (λ _. capacity_at) so_far.extent.layers r)
second_left Widths so_far r = with_widths so_far (named_parts wanted.Width (λ _. width_at) so_far.extent.layers r)
second_left Spacings so_far r = with_spacings so_far (named_parts wanted.Spacing (λ layer. spacing_at (slice_index so_far.widths layer)) (length so_far.widths) r)
second_left Vias so_far r = with_vias so_far (word_at wanted.Spacing r >>= λ word. left_behind (parts_at (λ _. number_at) 0 so_far.extent.layers word.1))

-- so many numbers of it were read
abbrev pub values_left : LayerList → Header → ℕ → Reading → InputRead Header
values_left Vertical so_far done r = with_vertical so_far (with_parts so_far.vertical (parts_at (λ _. capacity_at) done (so_far.extent.layers - done) r))
values_left Horizontal so_far done r = with_horizontal so_far (with_parts so_far.horizontal (parts_at (λ _. capacity_at) done (so_far.extent.layers - done) r))
values_left Widths so_far done r = with_widths so_far (with_parts so_far.widths (parts_at (λ _. width_at) done (so_far.extent.layers - done) r))
values_left Spacings so_far done r = with_spacings so_far (with_parts so_far.spacings (parts_at (λ layer. spacing_at (slice_index so_far.widths layer)) done (length so_far.widths - done) r))
values_left Vias so_far done r = with_vias so_far (left_behind (parts_at (λ _. number_at) done (so_far.extent.layers - done) r))
