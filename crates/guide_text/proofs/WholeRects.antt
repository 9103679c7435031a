-- Rectangles of a route's tiles consist of whole tiles of the grid.
use Rattle.std.proofs.Common.{ℕ, List, All, arith}
use Rattle.std.proofs.lemmas.List.Elements.{All-weaker}
use Rattle.grid_base.specs.declared.size.Size.{Size}
use Rattle.guide_text.specs.declared.tile_rect.TileRect.{TileRect}
use Rattle.guide_text.specs.Covering.{AreWholeTiles}
use Rattle.guide_text.specs.TileRects.{IsTileRect, AreTileRects}
use Rattle.guide_text.proofs.Runs.{last_tile}

pub rect_is_whole : (s : Size) (tiles : List ℕ) (rect : TileRect) → IsTileRect s tiles rect → AreWholeTiles s rect
rect_is_whole s tiles rect is =
    let top = is.each rect.last_row is.order (omega arith) in
    let tile = last_tile s tiles rect.layer rect.last_row rect.first_col rect.last_col top in
    record { layer = tile.in_layers; row_order = is.order; in_rows = tile.in_rows; col_order = top.order; in_cols = tile.in_cols }

pub rects_are_whole : (s : Size) (tiles : List ℕ) (rects : List TileRect) → AreTileRects s tiles rects → All (AreWholeTiles s) rects
rects_are_whole s tiles rects are = All-weaker (IsTileRect s tiles) (AreWholeTiles s) (rect_is_whole s tiles) rects are.only
