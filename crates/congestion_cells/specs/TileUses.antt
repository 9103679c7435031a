-- How full a tile edge is: what the edges over it carry, of the layers that are shown.
use Rattle.std.specs.Prelude.{◌≤◌, ℕ, ◌+◌, ◌*◌, Bool, true, false, ◌||◌, List, ltb, map}
use Rattle.std.specs.List.{list_any, range_with_len, sum_by}
use Rattle.grid_base.specs.declared.size.Size.{Size}
use Rattle.grid_base.specs.Numbers.{layers}
use Rattle.grid_graph.specs.declared.grid.Grid.{Grid}
use Rattle.grid_graph.specs.declared.kind.Kind.{Kind}
use Rattle.grid_graph.specs.declared.kind.Kind.TheVariants.{Open, Choked, Wall}
use Rattle.grid_graph.specs.Flat.{tiles}
use Rattle.grid_graph.specs.Grids.{capacity, kind, size_of}
use Rattle.congestion_cells.specs.declared.shown_layers.ShownLayers.{ShownLayers}
use Rattle.congestion_cells.specs.declared.tile_uses.TileUse.{TileUse}

-- the grid has these layers
abbrev pub AreLayersOf : Size → ShownLayers → Type 0
AreLayersOf s shown = shown.first + shown.count ≤ layers s

-- all layers of a grid, and one of them
abbrev pub all_layers : Size → ShownLayers
all_layers s = record { first = 0; count = layers s }

abbrev pub one_layer : ℕ → ShownLayers
one_layer layer = record { first = layer; count = 1 }

-- the edge of a layer over a tile edge. Tile edges are numbered as the edges of layer 0, and each layer has as many numbers.
abbrev pub edge_over : Size → ℕ → ℕ → ℕ
edge_over s tile_edge layer = tile_edge + layer * (2 * tiles s)

-- the edges over a tile edge, of the layers that are shown
abbrev pub edges_over : Size → ShownLayers → ℕ → List ℕ
edges_over s shown tile_edge = map (edge_over s tile_edge) (range_with_len shown.first shown.count)

-- an edge that an adjustment closed: its layer has a capacity in its direction, and it has none
abbrev pub is_choked : Kind → Bool
is_choked Open = false
is_choked Choked = true
is_choked Wall = false

-- what edges carry together and what they can carry, whether one of them is choked, and whether one carries more than its capacity
abbrev pub use_of : Grid → (ℕ → ℕ) → List ℕ → TileUse
use_of g load edges = record {
  load = sum_by load edges;
  capacity = sum_by (capacity g) edges;
  has_choked = list_any (λ e. is_choked (kind g e)) edges;
  is_overfull = list_any (λ e. ltb (capacity g e) (load e)) edges;
}

-- the use of a tile edge, where each edge has this load
abbrev pub tile_use : Grid → (ℕ → ℕ) → ShownLayers → ℕ → TileUse
tile_use g load shown tile_edge = use_of g load (edges_over (size_of g) shown tile_edge)

-- a use, and that of one more edge
abbrev pub with_edge : TileUse → ℕ → ℕ → Kind → TileUse
with_edge before load capacity kind = record {
  load = before.load + load;
  capacity = before.capacity + capacity;
  has_choked = before.has_choked || is_choked kind;
  is_overfull = before.is_overfull || ltb capacity load;
}
