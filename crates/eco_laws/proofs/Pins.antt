-- Where the pins of an edit lie, on alike grids and on the grid of a header.
use Rattle.std.proofs.Common.{◌≡◌, ℕ, ◌-◌, Bool, true, false, List, [], ◌∷◌, map, cond, None, Some, ◌∙◌, ap, ap₂, ℤ, pos, negsuc}
use Rattle.std.specs.Prelude.{nat_abs, nat_le, ◌&&◌, unwrap_or}
use Rattle.std.specs.Option.{option_zip}
use Rattle.std.proofs.lemmas.Option.{same_Some}
use Rattle.edit_text.specs.declared.edit.Pin.{Pin}
use Rattle.grid_base.specs.Numbers.{cols, rows, layers, vertex_number}
use Rattle.grid_graph.specs.declared.grid.Grid.{Grid}
use Rattle.grid_graph.specs.Alike.{AreAlike}
use Rattle.grid_graph.specs.Grids.{layout_of, size_of, tile_of_position}
use Rattle.grid_graph.specs.Layouts.{Layout}
use Rattle.grid_graph.specs.Tiles.{tile_index}
use Rattle.ispd_reader.specs.Nets.{tile_along}
use Rattle.ispd_reader.specs.Views.{header_of}
use Rattle.text_scan.specs.Within.{within}
use Rattle.eco_route.specs.PinPlaces.{pin_vertex, pin_vertices}
use Rattle.eco_laws.specs.TextEdits.{vertex_of_pin, vertices_of_pins}
use Rattle.eco_laws.proofs.Options.{mapped_of, zipped_of}

-- the vertex of a pin, as a grid of this layout has it
abbrev vertex_on : Layout → Pin → ℕ
vertex_on y pin =
    let tile = unwrap_or (option_zip (tile_index y.origin.0 y.tile.0 (cols y.size) pin.x) (tile_index y.origin.1 y.tile.1 (rows y.size) pin.y)) (0, 0) in
    vertex_number y.size tile.0 tile.1 (nat_abs pin.layer - 1)

-- alike grids have the same vertices for pins
pub pins-alike : (g h : Grid) (pins : List Pin) → AreAlike g h → pin_vertices g pins ≡ pin_vertices h pins
pins-alike g h pins alike = ap (λ (y : Layout). map (vertex_on y) pins) alike.layout

one_of : (b : Bool) (m n : ℕ) → cond b (Some m) None ≡ Some n → m ≡ n
one_of true m n is = same_Some m n is
one_of false m n is = absurd (cc is)

-- a number that is in a range is the number
within_is : (lo hi : ℕ) (z : ℤ) (n : ℕ) → within lo hi z ≡ Some n → nat_abs z ≡ n
within_is lo hi (pos m) n is = one_of (nat_le lo m && nat_le m hi) m n is
within_is lo hi (negsuc m) n is = absurd (cc is)

-- a pin has on a grid the vertex that it has on the grid of the header
pub pin_vertex-of_header : (g : Grid) (pin : Pin) (v : ℕ) → vertex_of_pin (header_of (layout_of g)) pin ≡ Some v → pin_vertex g pin ≡ v
unfolding tile_along
pin_vertex-of_header g pin v is =
    let found = mapped_of _ _ v is in
    let parts = zipped_of _ _ found.0 found.1 in
    let tile : tile_of_position g pin.x pin.y ≡ Some found.0.0 = parts.0 in
    let layer : nat_abs pin.layer ≡ found.0.1 = within_is 1 (layers (size_of g)) pin.layer found.0.1 parts.1 in
    rw (tile, layer) found.2

pub pin_vertices-of_header : (g : Grid) (pins : List Pin) (vs : List ℕ) → vertices_of_pins (header_of (layout_of g)) pins ≡ Some vs → pin_vertices g pins ≡ vs
pin_vertices-of_header g [] vs is = same_Some [] vs is
pin_vertices-of_header g (pin ∷ pins) vs is =
    let found = mapped_of _ _ vs is in
    let parts = zipped_of _ _ found.0 found.1 in
    ap₂ (λ w ws. w ∷ ws) (pin_vertex-of_header g pin found.0.0 parts.0) (pin_vertices-of_header g pins found.0.1 parts.1) ∙ found.2
