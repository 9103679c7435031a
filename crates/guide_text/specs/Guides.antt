-- The guide of a net: the rectangles of its route's tiles, by their corners.
use Rattle.std.specs.Prelude.{ℕ, ◌+◌, ◌≡◌, List, map, length, pos}
use Rattle.grid_base.specs.declared.piece.Piece.{Piece}
use Rattle.grid_base.specs.Lists.{At}
use Rattle.grid_graph.specs.declared.grid.Grid.{Grid}
use Rattle.grid_graph.specs.declared.net_spec.NetSpec.{NetSpec}
use Rattle.grid_graph.specs.Grids.{size_of, layout_of}
use Rattle.guide_text.specs.declared.guide.Guide.{Guide}
use Rattle.guide_text.specs.declared.rect.Rect.{Rect}
use Rattle.guide_text.specs.declared.tile_rect.TileRect.{TileRect}
use Rattle.guide_text.specs.Borderlines.{border}
use Rattle.guide_text.specs.RouteTiles.{route_tiles}
use Rattle.guide_text.specs.TileRects.{AreTileRects}

-- the lower-left corner of a rectangle's lower-left tile, the upper right corner of its upper right one, and its layer, counted from 1
abbrev pub rect_of : Grid → TileRect → Rect
rect_of g tiles =
    let of = layout_of g in
    record {
      x1 = border of.origin.0 of.tile.0 tiles.first_col;
      y1 = border of.origin.1 of.tile.1 tiles.first_row;
      x2 = border of.origin.0 of.tile.0 (tiles.last_col + 1);
      y2 = border of.origin.1 of.tile.1 (tiles.last_row + 1);
      layer = pos (tiles.layer + 1);
    }

-- the tiles of a net's route on a grid
abbrev pub tiles_on : Grid → NetSpec → List Piece → List ℕ
tiles_on g n tree = route_tiles (size_of g) tree n.terminals

-- the guide of a net with this set of pieces: its name, its id, and the rectangles of its route's tiles
pub record IsGuideOf (g : Grid) (n : NetSpec) (tree : List Piece) (guide : Guide) : Type 0 where
  pub name : guide.name ≡ n.name
  pub id : guide.id ≡ n.id
  pub tile_rects : List TileRect
  pub longest : AreTileRects (size_of g) (tiles_on g n tree) tile_rects
  pub rects : guide.rects ≡ map (rect_of g) tile_rects

-- one guide per net, in order: that of the net with the set at its place
pub record AreGuidesOf (g : Grid) (nets : List NetSpec) (trees : List (List Piece)) (guides : List Guide) : Type 0 where
  pub long : length guides ≡ length nets
  pub each : (k : ℕ) (n : NetSpec) (tree : List Piece) (guide : Guide) → At nets k n → At trees k tree → At guides k guide → IsGuideOf g n tree guide
