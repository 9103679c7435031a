-- The cells of a map.
use Rattle.std.specs.Prelude.{ℕ, ◌*◌, ◌==◌, ◌&&◌, ◌||◌, max, List, [], ◌∷◌, ltb, map}
use Rattle.std.specs.List.{list_any, range_with_len}
use Rattle.grid_graph.specs.declared.grid.Grid.{Grid}
use Rattle.grid_graph.specs.Flat.{tiles}
use Rattle.grid_graph.specs.Grids.{size_of}
use Rattle.congestion_cells.specs.declared.cell.Cell.{Cell}
use Rattle.congestion_cells.specs.declared.shown_layers.ShownLayers.{ShownLayers}
use Rattle.congestion_cells.specs.declared.tile_uses.TileUse.{TileUse}
use Rattle.congestion_cells.specs.Classes.{class_of}
use Rattle.congestion_cells.specs.TileUses.{tile_use}

-- the greatest of some numbers, and 0 of none
abbrev pub greatest : List ℕ → ℕ
greatest [] = 0
greatest (x ∷ xs) = max x (greatest xs)

-- the cell of a tile edge
abbrev pub cell_of_use : TileUse → Cell
cell_of_use u = record {
  class = class_of u.load u.capacity;
  is_overfull = u.is_overfull;
  is_closed = u.has_choked && (u.capacity == 0);
  is_partly_closed = u.has_choked && ltb 0 u.capacity;
}

-- several cells as one: the greatest class, and what is true of one of them
abbrev pub joined : List Cell → Cell
joined cells = record {
  class = greatest (map (λ c. c.class) cells);
  is_overfull = list_any (λ c. c.is_overfull) cells;
  is_closed = list_any (λ c. c.is_closed) cells;
  is_partly_closed = list_any (λ c. c.is_partly_closed) cells;
}

-- two cells as one
abbrev pub with_cell : Cell → Cell → Cell
with_cell a b = record {
  class = max a.class b.class;
  is_overfull = a.is_overfull || b.is_overfull;
  is_closed = a.is_closed || b.is_closed;
  is_partly_closed = a.is_partly_closed || b.is_partly_closed;
}

-- the cell of a tile edge, where each edge has this load
abbrev pub edge_cell : Grid → (ℕ → ℕ) → ShownLayers → ℕ → Cell
edge_cell g load shown tile_edge = cell_of_use (tile_use g load shown tile_edge)

-- the cells of all tile edges, by their numbers
abbrev pub edge_cells : Grid → (ℕ → ℕ) → ShownLayers → List Cell
edge_cells g load shown = map (edge_cell g load shown) (range_with_len 0 (2 * tiles (size_of g)))
