-- The flat grid of a grid: its columns and rows with one layer. Each vertex stands over a tile, and each edge over an
-- edge between two tiles, whose numbers are those of layer 0.
use Rattle.std.specs.Prelude.{ℕ, ◌≡◌, ◌≤◌, ◌*◌, ◌%◌, List}
use Rattle.grid_base.specs.declared.edge.Edge.{Edge as EdgeNumber}
use Rattle.grid_base.specs.declared.piece.Piece.{Piece}
use Rattle.grid_base.specs.declared.piece.Piece.TheVariants.{Edge}
use Rattle.grid_base.specs.declared.size.Size.{Size}
use Rattle.grid_base.specs.Numbers.{cols, rows, layers}
use Rattle.grid_graph.specs.Limits.{max_weight}
use Rattle.grid_graph.specs.Weighed.{Weighs}

-- how many tiles there are, as many as vertices of a layer
abbrev pub tiles : Size → ℕ
tiles s = cols s * rows s

-- the tile of a vertex
abbrev pub tile_of : Size → ℕ → ℕ
tile_of s v = v % tiles s

-- the tile edge of an edge
abbrev pub tile_edge_of : Size → ℕ → ℕ
tile_edge_of s e = e % (2 * tiles s)

-- the flat grid of a grid
pub record IsFlatOf (flat s : Size) : Type 0 where
  pub cols_of : cols flat ≡ cols s
  pub rows_of : rows flat ≡ rows s
  pub single : layers flat ≡ 1

-- no edge of the list weighs less than the number of its tile edge, and no such number is above the limit of weights
pub record AreLeastOver (s : Size) (pieces : List (Piece × ℕ)) (over : ℕ → ℕ) : Type 0 where
  pub below : (e : EdgeNumber) (weight : ℕ) → Weighs pieces (Edge e) weight → over (tile_edge_of s e.0) ≤ weight
  pub within : (e : ℕ) → over e ≤ max_weight

-- two grids have the same tiles: as many columns and as many rows
pub record HaveSameTiles (one other : Size) : Type 0 where
  pub cols_of : cols one ≡ cols other
  pub rows_of : rows one ≡ rows other
