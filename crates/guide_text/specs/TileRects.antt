-- Rectangles of tiles: longest runs, and longest lists of them one above the other.
use Rattle.std.specs.Prelude.{ℕ, ◌+◌, ◌≡◌, ◌≤◌, ◌<◌, List, All, Contains, length, slice_index}
use Rattle.std.specs.List.{AllAdjacentBelow}
use Rattle.grid_base.specs.declared.size.Size.{Size}
use Rattle.grid_base.specs.Numbers.{vertex_number}
use Rattle.guide_text.specs.declared.tile_rect.TileRect.{TileRect}
use Rattle.guide_text.specs.RouteTiles.{HasTile}

-- a run: a longest list of neighbouring tiles in one row of one layer, from its first column to its last
pub record IsTileRun (s : Size) (tiles : List ℕ) (layer row first last : ℕ) : Type 0 where
  pub order : first ≤ last
  pub each : (col : ℕ) → first ≤ col → col ≤ last → HasTile s tiles layer row col
  pub before : (col : ℕ) → col + 1 ≡ first → ¬ HasTile s tiles layer row col
  pub behind : ¬ HasTile s tiles layer row (last + 1)

-- a rectangle: a longest list of runs with the same first and last column in consecutive rows of one layer
pub record IsTileRect (s : Size) (tiles : List ℕ) (rect : TileRect) : Type 0 where
  pub order : rect.first_row ≤ rect.last_row
  pub each : (row : ℕ) → rect.first_row ≤ row → row ≤ rect.last_row → IsTileRun s tiles rect.layer row rect.first_col rect.last_col
  pub below : (row : ℕ) → row + 1 ≡ rect.first_row → ¬ IsTileRun s tiles rect.layer row rect.first_col rect.last_col
  pub above : ¬ IsTileRun s tiles rect.layer (rect.last_row + 1) rect.first_col rect.last_col

-- the number of a rectangle's lower-left tile: tiles are numbered by layer, then by row, then by column
abbrev pub corner : Size → TileRect → ℕ
corner s rect = vertex_number s rect.first_col rect.first_row rect.layer

-- the rectangle begins in this layer, row and column
pub record StandsOn (layer row col : ℕ) (rect : TileRect) : Type 0 where
  pub in_layer : rect.layer ≡ layer
  pub from_row : rect.first_row ≡ row
  pub from_col : rect.first_col ≡ col

-- the rectangles of some tiles, all of them and no others, in the order of their lower-left tiles
pub record AreTileRects (s : Size) (tiles : List ℕ) (rects : List TileRect) : Type 0 where
  pub rising : AllAdjacentBelow (λ one next. corner s one < corner s next) rects (length rects)
  pub only : All (IsTileRect s tiles) rects
  pub every : (rect : TileRect) → IsTileRect s tiles rect → Contains rects rect

-- those whose lower-left tiles are among the first n of a list
pub record AreFirstRects (s : Size) (tiles : List ℕ) (n : ℕ) (rects : List TileRect) : Type 0 where
  pub rising : AllAdjacentBelow (λ one next. corner s one < corner s next) rects (length rects)
  pub only : All (IsTileRect s tiles) rects
  pub early : All (λ rect. (k : ℕ) × (k < n) × (slice_index tiles k ≡ corner s rect)) rects
  pub every : (rect : TileRect) (k : ℕ) → IsTileRect s tiles rect → k < n → slice_index tiles k ≡ corner s rect → Contains rects rect
