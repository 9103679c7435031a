-- Which tiles a guide covers.
use Rattle.std.specs.Prelude.{ℕ, ◌≡◌, ◌≤◌, ◌<◌, ◌↔◌, List, All, Contains}
use Rattle.grid_base.specs.declared.piece.Piece.{Piece}
use Rattle.grid_base.specs.declared.size.Size.{Size}
use Rattle.grid_base.specs.Lists.{At}
use Rattle.grid_base.specs.Numbers.{cols, rows, layers, vertex_number}
use Rattle.grid_graph.specs.declared.grid.Grid.{Grid}
use Rattle.grid_graph.specs.declared.net_spec.NetSpec.{NetSpec}
use Rattle.grid_graph.specs.Grids.{size_of}
use Rattle.guide_text.specs.declared.guide.Guide.{Guide}
use Rattle.guide_text.specs.declared.rect.Rect.{Rect}
use Rattle.guide_text.specs.declared.tile_rect.TileRect.{TileRect}
use Rattle.guide_text.specs.Guides.{rect_of, tiles_on}

-- whole tiles of the grid: a layer, and rows and columns from the first to the last
pub record AreWholeTiles (s : Size) (tiles : TileRect) : Type 0 where
  pub layer : tiles.layer < layers s
  pub row_order : tiles.first_row ≤ tiles.last_row
  pub in_rows : tiles.last_row < rows s
  pub col_order : tiles.first_col ≤ tiles.last_col
  pub in_cols : tiles.last_col < cols s

-- the rectangle consists of these tiles
abbrev pub ConsistsOf : Grid → Rect → TileRect → Type 0
ConsistsOf g rect tiles = AreWholeTiles (size_of g) tiles × (rect ≡ rect_of g tiles)

-- the rectangle consists of whole tiles
abbrev pub IsTiled : Grid → Rect → Type 0
IsTiled g rect = (tiles : TileRect) × ConsistsOf g rect tiles

-- the tile of this number is one of them
pub record IsAmong (s : Size) (tiles : TileRect) (v : ℕ) : Type 0 where
  pub row : ℕ
  pub col : ℕ
  pub first_row : tiles.first_row ≤ row
  pub last_row : row ≤ tiles.last_row
  pub first_col : tiles.first_col ≤ col
  pub last_col : col ≤ tiles.last_col
  pub number : vertex_number s col row tiles.layer ≡ v

-- the tile lies inside a rectangle
abbrev pub IsInsideRect : Grid → Rect → ℕ → Type 0
IsInsideRect g rect v = (tiles : TileRect) × ConsistsOf g rect tiles × IsAmong (size_of g) tiles v

-- the tile lies inside one of the rectangles
abbrev pub IsCovered : Grid → List Rect → ℕ → Type 0
IsCovered g rects v = (rect : Rect) × Contains rects rect × IsInsideRect g rect v

-- each rectangle of a guide consists of whole tiles of the grid, and the tiles inside them are those of the net's route
pub record Covers (g : Grid) (n : NetSpec) (tree : List Piece) (guide : Guide) : Type 0 where
  pub whole : All (IsTiled g) guide.rects
  pub exactly : (v : ℕ) → IsCovered g guide.rects v ↔ Contains (tiles_on g n tree) v

-- no tile lies inside two of the rectangles
abbrev pub ShareNoTile : Grid → List Rect → Type 0
ShareNoTile g rects = (i j : ℕ) (one other : Rect) (v : ℕ) → At rects i one → At rects j other → IsInsideRect g one v → IsInsideRect g other v → i ≡ j
