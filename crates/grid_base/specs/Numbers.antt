-- The numbers of vertices, edges and vias. In definitions a vertex is its number.
use Rattle.std.specs.Prelude.{◌≡◌, ℕ, ◌+◌, ◌*◌, ◌/◌, ◌%◌, ◌<◌, ◌==◌, ◌⊎◌, cond}
use Rattle.std.specs.Int.{abs_diff}
use Rattle.grid_base.specs.declared.axis.Axis.{Axis}
use Rattle.grid_base.specs.declared.axis.Axis.TheVariants.{X, Y}
use Rattle.grid_base.specs.declared.edge.Edge.{Edge as EdgeNumber}
use Rattle.grid_base.specs.declared.piece.Piece.{Piece}
use Rattle.grid_base.specs.declared.piece.Piece.TheVariants.{Edge, Via}
use Rattle.grid_base.specs.declared.place.Place.{Place}
use Rattle.grid_base.specs.declared.size.Size.{Size}

-- how many columns the grid has
abbrev pub cols : Size → ℕ
cols s = s.cols

-- how many rows
abbrev pub rows : Size → ℕ
rows s = s.rows

-- how many layers
abbrev pub layers : Size → ℕ
layers s = s.layers

-- how many vertices
abbrev pub vertices : Size → ℕ
vertices s = cols s * rows s * layers s

-- the number of the vertex at this column, row and layer
abbrev pub vertex_number : Size → ℕ → ℕ → ℕ → ℕ
vertex_number s col row layer = (layer * rows s + row) * cols s + col

-- the number belongs to a vertex
abbrev pub IsVertex : Size → ℕ → Type 0
IsVertex s v = v < vertices s

-- the column of a vertex
abbrev pub col_of : Size → ℕ → ℕ
col_of s v = v % cols s

-- the row of a vertex
abbrev pub row_of : Size → ℕ → ℕ
row_of s v = v / cols s % rows s

-- the layer of a vertex
abbrev pub layer_of : Size → ℕ → ℕ
layer_of s v = v / cols s / rows s

-- the column, row and layer of a vertex
abbrev pub place_at : Size → ℕ → Place
place_at s v = record { col = col_of s v; row = row_of s v; layer = layer_of s v }

-- the place is in the grid
abbrev pub IsInside : Size → Place → Type 0
IsInside s p = (p.col < cols s) × (p.row < rows s) × (p.layer < layers s)

-- the edge that goes from a vertex along an axis: 2v along x, 2v + 1 along y
abbrev pub edge_along : Axis → ℕ → EdgeNumber
edge_along X v = record { 0 = 2 * v }
edge_along Y v = record { 0 = 2 * v + 1 }

-- the vertex that an edge goes from
abbrev pub edge_start : ℕ → ℕ
edge_start e = e / 2

-- the axis that an edge runs along
abbrev pub edge_axis : ℕ → Axis
edge_axis e = cond (e % 2 == 0) X Y

-- the edge from a vertex to the next column
abbrev pub to_next_col : ℕ → Piece
to_next_col v = Edge (edge_along X v)

-- the edge from a vertex to the next row
abbrev pub to_next_row : ℕ → Piece
to_next_row v = Edge (edge_along Y v)

-- the via from a vertex to the next layer
abbrev pub to_next_layer : ℕ → Piece
to_next_layer v = Via (record { 0 = v })

-- the next place along an axis
abbrev pub next_along : Axis → Place → Place
next_along X p = record p { col = p.col + 1 }
next_along Y p = record p { row = p.row + 1 }

-- the vertex that a piece goes from: via v goes from vertex v
abbrev pub start_of : Piece → ℕ
start_of (Edge e) = edge_start e.0
start_of (Via v) = v.0

-- the place that a piece goes to: an edge to the next one along its axis, a via to the next layer
abbrev pub end_place : Size → Piece → Place
end_place s (Edge e) = next_along (edge_axis e.0) (place_at s (edge_start e.0))
end_place s (Via v) = let start = place_at s v.0 in record start { layer = start.layer + 1 }

-- the vertex that a piece goes to
abbrev pub end_of : Size → Piece → ℕ
end_of s p = let arrives = end_place s p in vertex_number s arrives.col arrives.row arrives.layer

-- the piece goes from a vertex to a place in the grid
abbrev pub IsPiece : Size → Piece → Type 0
IsPiece s p = IsVertex s (start_of p) × IsInside s (end_place s p)

-- the piece goes from `a` to `b`
abbrev pub Goes : Size → Piece → ℕ → ℕ → Type 0
Goes s p a b = IsPiece s p × (start_of p ≡ a) × (end_of s p ≡ b)

-- these are the two ends of the piece, in either order
abbrev pub Connects : Size → Piece → ℕ → ℕ → Type 0
Connects s p a b = Goes s p a b ⊎ Goes s p b a

-- the grid distance of two places: the sum of the differences of column, row and layer
abbrev pub distance : Place → Place → ℕ
distance p q = abs_diff p.col q.col + abs_diff p.row q.row + abs_diff p.layer q.layer

-- two vertices at distance 1: they differ by one step in exactly one of column, row and layer
abbrev pub AreNeighbours : Size → ℕ → ℕ → Type 0
AreNeighbours s a b = IsVertex s a × IsVertex s b × (distance (place_at s a) (place_at s b) ≡ 1)
