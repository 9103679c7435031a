-- Words for a grid: capacities, kinds, demands, tiles, and what a ground allows.
use Rattle.std.specs.Prelude.{ℕ, ◌+◌, ◌*◌, ◌≡◌, ◌≢◌, ◌≤◌, ◌<◌, ℤ, Option, cond, ltb, slice_index}
use Rattle.std.specs.Option.{option_zip}
use Rattle.grid_base.specs.declared.piece.Piece.{Piece}
use Rattle.grid_base.specs.declared.piece.Piece.TheVariants.{Edge, Via}
use Rattle.grid_base.specs.declared.size.Size.{Size}
use Rattle.grid_base.specs.Numbers.{cols, rows, layers, vertices, col_of, row_of, layer_of, edge_start, IsPiece}
use Rattle.grid_graph.specs.declared.grid.Grid.{Grid}
use Rattle.grid_graph.specs.declared.ground.Ground.{Ground}
use Rattle.grid_graph.specs.declared.ground.Ground.TheVariants.{Open, WithChoked}
use Rattle.grid_graph.specs.declared.kind.Kind.{Kind}
use Rattle.grid_graph.specs.declared.kind.Kind.TheVariants as kinds
use Rattle.grid_graph.specs.Capacities.{layer_capacity, demand}
use Rattle.grid_graph.specs.Layouts.{Layout, layout_of_parts}
use Rattle.grid_graph.specs.Limits.{max_demand}
use Rattle.grid_graph.specs.Tiles.{tile_index, written_position}

-- what a grid was made of
abbrev pub layout_of : Grid → Layout
layout_of g = layout_of_parts g.parts

-- its size
abbrev pub size_of : Grid → Size
size_of g = g.parts.size

-- there are twice as many edge numbers as vertices; one that belongs to no edge counts as a wall
abbrev pub IsEdgeNumber : Grid → ℕ → Type 0
IsEdgeNumber g e = e < 2 * vertices (size_of g)

-- how many edge numbers there are, and the place of the wirelength's entry in a list of loads or of prices
abbrev pub edge_numbers : Grid → ℕ
edge_numbers g = 2 * vertices (size_of g)

-- how many entries a list of loads or of prices has: one per edge number, and then one for the wirelength
abbrev pub entries : Grid → ℕ
entries g = edge_numbers g + 1

-- the final capacity of an edge number
abbrev pub capacity : Grid → ℕ → ℕ
capacity g e = slice_index g.capacities.items e

-- its layer's capacity in its direction
abbrev pub first_capacity : Grid → ℕ → ℕ
first_capacity g e = layer_capacity (layout_of g) e

-- open with a capacity; choked where the layer has one in its direction and the edge none; else a wall
abbrev pub kind : Grid → ℕ → Kind
kind g e = cond (ltb 0 (capacity g e)) kinds.Open (cond (ltb 0 (first_capacity g e)) kinds.Choked kinds.Wall)

-- the width of a layer
abbrev pub width_of_layer : Grid → ℕ → ℕ
width_of_layer g layer = slice_index (layout_of g).widths layer

-- the spacing of a layer
abbrev pub spacing_of_layer : Grid → ℕ → ℕ
spacing_of_layer g layer = slice_index (layout_of g).spacings layer

-- a net may be this wide: with the greatest spacing of a layer it stays within the greatest demand
abbrev pub IsNetWidth : Grid → ℕ → Type 0
IsNetWidth g width = (l : ℕ) → l < layers (size_of g) → width + spacing_of_layer g l ≤ max_demand

-- what a net of this width uses of an edge
abbrev pub demand_on : Grid → ℕ → ℕ → ℕ
demand_on g width e = let layer = layer_of (size_of g) (edge_start e) in demand width (width_of_layer g layer) (spacing_of_layer g layer)

-- the column and the row of the tile of a position, upper borders included
abbrev pub tile_of_position : Grid → ℤ → ℤ → Option (ℕ × ℕ)
tile_of_position g x y =
    let of = layout_of g in
    option_zip (tile_index of.origin.0 of.tile.0 (cols of.size) x) (tile_index of.origin.1 of.tile.1 (rows of.size) y)

-- the position written for a vertex
abbrev pub position_of : Grid → ℕ → ℤ × ℤ
position_of g v =
    let of = layout_of g in
    (written_position of.origin.0 of.tile.0 (col_of of.size v), written_position of.origin.1 of.tile.1 (row_of of.size v))

-- the ground's pieces: vias and open edges, and with `WithChoked` choked edges too
abbrev pub Allows : Grid → Ground → Piece → Type 0
Allows g Open (Edge e) = kind g e.0 ≡ kinds.Open
Allows g WithChoked (Edge e) = kind g e.0 ≢ kinds.Wall
Allows g Open (Via v) = IsPiece (size_of g) (Via v)
Allows g WithChoked (Via v) = IsPiece (size_of g) (Via v)
