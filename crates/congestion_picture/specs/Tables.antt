-- The text of a table: a head, and a line for each tile edge.
use Rattle.std.specs.Prelude.{ℕ, ◌+◌, ◌*◌, List, [], ◌++◌, codes, cond, decimal, flat_map}
use Rattle.std.specs.List.{range_with_len}
use Rattle.grid_base.specs.declared.axis.Axis.{Axis}
use Rattle.grid_base.specs.declared.axis.Axis.TheVariants.{X, Y}
use Rattle.grid_base.specs.declared.size.Size.{Size}
use Rattle.grid_base.specs.Numbers.{col_of, edge_axis, edge_start, row_of}
use Rattle.grid_graph.specs.declared.grid.Grid.{Grid}
use Rattle.grid_graph.specs.Capacities.{has_next}
use Rattle.grid_graph.specs.Flat.{tiles}
use Rattle.grid_graph.specs.Grids.{size_of}
use Rattle.congestion_cells.specs.declared.shown_layers.ShownLayers.{ShownLayers}
use Rattle.congestion_cells.specs.declared.tile_uses.TileUse.{TileUse}
use Rattle.congestion_cells.specs.TileUses.{one_layer, tile_use}

-- ---- the line of a tile edge

abbrev pub axis_name : Axis → List ℕ
axis_name X = codes "x"
axis_name Y = codes "y"

-- the column and the row of the tile that it goes from, and its direction
abbrev pub place_fields : Size → ℕ → List ℕ
place_fields s e =
    decimal (col_of s (edge_start e)) ++ codes "," ++ decimal (row_of s (edge_start e)) ++ codes "," ++ axis_name (edge_axis e)

-- its load and its capacity
abbrev pub use_fields : TileUse → List ℕ
use_fields u = codes "," ++ decimal u.load ++ codes "," ++ decimal u.capacity

-- those of the i-th of the layers that have columns of their own
abbrev pub columns_of_layer : Grid → (ℕ → ℕ) → ShownLayers → ℕ → ℕ → List ℕ
columns_of_layer g load each e i = use_fields (tile_use g load (one_layer (each.first + i)) e)

abbrev pub edge_line : Grid → (ℕ → ℕ) → ShownLayers → ShownLayers → ℕ → List ℕ
edge_line g load shown each e =
    place_fields (size_of g) e ++ use_fields (tile_use g load shown e)
    ++ flat_map (columns_of_layer g load each e) (range_with_len 0 each.count) ++ codes "\n"

-- a number that belongs to no tile edge has no line
abbrev pub line_of_number : Grid → (ℕ → ℕ) → ShownLayers → ShownLayers → ℕ → List ℕ
line_of_number g load shown each e =
    cond (has_next (size_of g) (edge_axis e) (edge_start e)) (edge_line g load shown each e) []

-- ---- all of it

-- the names of a layer's columns; layers are named from 1
abbrev pub layer_name : ℕ → List ℕ
layer_name layer = codes ",load_" ++ decimal (layer + 1) ++ codes ",capacity_" ++ decimal (layer + 1)

-- the table of all tile edges, where each edge has this load: together over the layers that are shown, and then by themselves those
-- of each of some layers
abbrev pub table_text : Grid → (ℕ → ℕ) → ShownLayers → ShownLayers → List ℕ
table_text g load shown each =
    codes "column,row,direction,load,capacity" ++ flat_map (λ i. layer_name (each.first + i)) (range_with_len 0 each.count) ++ codes "\n"
    ++ flat_map (line_of_number g load shown each) (range_with_len 0 (2 * tiles (size_of g)))
