-- The place of each point that is written, and the pieces on a segment that is written.
use Rattle.std.proofs.Common.{◌≡◌, ℕ, ◌+◌, ◌-◌, ◌<◌, false, Some, pos, ltb, refl, sym, ◌∙◌, arith}
use Rattle.std.proofs.lemmas.Bool.{le-ltb}
use Rattle.std.proofs.lemmas.Option.{same_Some}
use Rattle.grid_base.specs.declared.piece.Piece.{Piece}
use Rattle.grid_base.specs.Lines.{AreInLine}
use Rattle.grid_base.specs.Numbers.{IsVertex, cols, rows, layers, place_at, col_of, row_of, layer_of}
use Rattle.grid_base.proofs.Lines.{GoesBetween}
use Rattle.grid_base.proofs.Places.{place_at-inside}
use Rattle.grid_graph.specs.declared.grid.Grid.{Grid}
use Rattle.grid_graph.specs.Grids.{layout_of, size_of}
use Rattle.grid_graph.proofs.Positions.{tile_of_written}
use Rattle.route_text.specs.BlockPieces.{layer_index, point_place, LiesOn}
use Rattle.route_text.specs.Written.{written_point, written_segment}

-- the number written for a layer names that layer
layer_of_written : (layers l : ℕ) → l < layers → layer_index layers (pos (l + 1)) ≡ Some l
layer_of_written layers l below =
    let low : ltb (l + 1) 1 ≡ false = le-ltb (l + 1) 1 (omega arith) in
    let high : ltb layers (l + 1) ≡ false = le-ltb layers (l + 1) (omega arith) in
    let back : l + 1 - 1 ≡ l = omega arith in
    rw (low, high, back) refl

-- the point written for a vertex lies in its place
pub point_place-written : (g : Grid) (v : ℕ) → IsVertex (size_of g) v → point_place g (written_point g v) ≡ Some (place_at (size_of g) v)
point_place-written g v vertex =
    let inside = place_at-inside (size_of g) v vertex in
    rw (
      tile_of_written (layout_of g).origin.0 (layout_of g).tile.0 (cols (size_of g)) (col_of (size_of g) v) g.limits.tile_width.low inside.0,
      tile_of_written (layout_of g).origin.1 (layout_of g).tile.1 (rows (size_of g)) (row_of (size_of g) v) g.limits.tile_height.low inside.1,
      layer_of_written (layers (size_of g)) (layer_of (size_of g) v) inside.2,
    ) refl

-- a piece on the segment that is written for two vertices goes between their places
pub lies_between : (g : Grid) (a b : ℕ) (p : Piece) → IsVertex (size_of g) a → IsVertex (size_of g) b → LiesOn g (written_segment g (a, b)) p → GoesBetween (size_of g) (place_at (size_of g) a) (place_at (size_of g) b) p
lies_between g a b p start end lies =
    let from : lies.from ≡ place_at (size_of g) a = same_Some _ _ (sym lies.starts ∙ point_place-written g a start) in
    let to : lies.to ≡ place_at (size_of g) b = same_Some _ _ (sym lies.ends ∙ point_place-written g b end) in
    rw (sym from, sym to) (record { of_grid = lies.of_grid; starts = lies.start; ends = lies.end })

-- and a piece that goes between them lies on it, where they are in line
pub lies_on : (g : Grid) (a b : ℕ) (p : Piece) → IsVertex (size_of g) a → IsVertex (size_of g) b → AreInLine (place_at (size_of g) a) (place_at (size_of g) b) → GoesBetween (size_of g) (place_at (size_of g) a) (place_at (size_of g) b) p → LiesOn g (written_segment g (a, b)) p
lies_on g a b p start end straight goes = record {
  from = place_at (size_of g) a;
  to = place_at (size_of g) b;
  starts = point_place-written g a start;
  ends = point_place-written g b end;
  straight = straight;
  of_grid = goes.of_grid;
  start = goes.starts;
  end = goes.ends;
}
