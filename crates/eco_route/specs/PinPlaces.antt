-- Where the pins of an edit lie on a grid.
use Rattle.std.specs.Prelude.{ℕ, ◌-◌, Bool, ◌||◌, List, map, pos, int_lt, nat_abs, is_none, unwrap_or}
use Rattle.edit_text.specs.declared.edit.Pin.{Pin}
use Rattle.grid_base.specs.Numbers.{layers, vertex_number}
use Rattle.grid_graph.specs.declared.grid.Grid.{Grid}
use Rattle.grid_graph.specs.Grids.{size_of, tile_of_position}

-- the pin is outside the closed rectangle of the grid
abbrev pub is_outside : Grid → Pin → Bool
is_outside g pin = is_none (tile_of_position g pin.x pin.y)

-- the pin's layer is below 1 or above the last
abbrev pub is_off_layers : Grid → Pin → Bool
is_off_layers g pin = int_lt pin.layer (pos 1) || int_lt (pos (layers (size_of g))) pin.layer

-- the vertex of a pin that lies on the grid
abbrev pub pin_vertex : Grid → Pin → ℕ
pin_vertex g pin =
    let tile = unwrap_or (tile_of_position g pin.x pin.y) (0, 0) in
    vertex_number (size_of g) tile.0 tile.1 (nat_abs pin.layer - 1)

-- the vertices of pins
abbrev pub pin_vertices : Grid → List Pin → List ℕ
pin_vertices g pins = map (pin_vertex g) pins
