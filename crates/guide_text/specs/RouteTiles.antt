-- The tiles of a route. A tile is a vertex of the grid: a column, a row and a layer.
use Rattle.std.specs.Prelude.{ℕ, ◌≡◌, ◌+◌, ◌<◌, List, [], ◌∷◌, ◌++◌, map, flat_map, Contains}
use Rattle.grid_base.specs.declared.piece.Piece.{Piece}
use Rattle.grid_base.specs.declared.place.Place.{Place}
use Rattle.grid_base.specs.declared.size.Size.{Size}
use Rattle.grid_base.specs.declared.vertex.Vertex.{Vertex}
use Rattle.grid_base.specs.Numbers.{cols, rows, layers, start_of, end_of, vertex_number}

-- the ends of a piece
abbrev pub ends_of : Size → Piece → List ℕ
ends_of s p = start_of p ∷ end_of s p ∷ []

-- the tiles of a net's route: the ends of its pieces, and its terminals. One may stand in the list more than once
abbrev pub route_tiles : Size → List Piece → List Vertex → List ℕ
route_tiles s tree terminals = flat_map (ends_of s) tree ++ map (λ t. t.0) terminals

-- the tile at this layer, row and column of the grid is one of a list
pub record HasTile (s : Size) (tiles : List ℕ) (layer row col : ℕ) : Type 0 where
  pub in_layers : layer < layers s
  pub in_rows : row < rows s
  pub in_cols : col < cols s
  pub listed : Contains tiles (vertex_number s col row layer)

-- so is the tile before this one in its row
abbrev pub HasTileBefore : Size → List ℕ → Place → Type 0
HasTileBefore s tiles p = (col : ℕ) × (col + 1 ≡ p.col) × HasTile s tiles p.layer p.row col

-- and the tile behind it
abbrev pub HasTileBehind : Size → List ℕ → Place → Type 0
HasTileBehind s tiles p = HasTile s tiles p.layer p.row (p.col + 1)
