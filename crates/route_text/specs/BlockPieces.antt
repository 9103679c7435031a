-- The pieces that a block names: those between the ends of its segments.
use Rattle.std.specs.Prelude.{ℕ, ◌-◌, ◌≡◌, Contains, ℤ, nat_abs, pos, Option, Some, None, cond, int_lt}
use Rattle.grid_base.specs.declared.piece.Piece.{Piece}
use Rattle.grid_base.specs.declared.place.Place.{Place}
use Rattle.grid_base.specs.Lines.{AreInLine, IsBetween}
use Rattle.grid_base.specs.Numbers.{IsPiece, layers, start_of, place_at, end_place}
use Rattle.grid_graph.specs.declared.grid.Grid.{Grid}
use Rattle.grid_graph.specs.Grids.{size_of, tile_of_position}
use Rattle.route_text.specs.declared.block.Block.{Block}
use Rattle.route_text.specs.declared.point.Point.{Point}
use Rattle.route_text.specs.declared.segment.Segment.{Segment}

-- the layer of this number, counted from 1, of so many layers
abbrev pub layer_index : ℕ → ℤ → Option ℕ
layer_index count number = cond (int_lt number (pos 1)) None (cond (int_lt (pos count) number) None (Some (nat_abs number - 1)))

-- a tile and a layer, where there are both
abbrev pub place_on_layer : Option (ℕ × ℕ) → Option ℕ → Option Place
place_on_layer (Some tile) (Some layer) = Some (record { col = tile.0; row = tile.1; layer = layer })
place_on_layer (Some tile) None = None
place_on_layer None layer = None

-- where a point lies: in the tile of its position, on its layer
abbrev pub point_place : Grid → Point → Option Place
point_place g point = place_on_layer (tile_of_position g point.x point.y) (layer_index (layers (size_of g)) point.layer)

-- the ends of the segment are in line, and the piece goes from a place between them to a place between them
pub record LiesOn (g : Grid) (segment : Segment) (piece : Piece) : Type 0 where
  pub from : Place
  pub to : Place
  pub starts : point_place g segment.from ≡ Some from
  pub ends : point_place g segment.to ≡ Some to
  pub straight : AreInLine from to
  pub of_grid : IsPiece (size_of g) piece
  pub start : IsBetween from to (place_at (size_of g) (start_of piece))
  pub end : IsBetween from to (end_place (size_of g) piece)

-- the piece lies on a segment of the block
abbrev pub IsPieceOf : Grid → Block → Piece → Type 0
IsPieceOf g block piece = (segment : Segment) × Contains block.segments segment × LiesOn g segment piece
