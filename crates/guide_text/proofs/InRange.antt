-- A text can hold the guides of a near design.
use Rattle.std.proofs.Common.{ℕ, ◌+◌, ◌≤◌, List, All, sym, subst, arith, ℤ, pos, ◌≤ℤ◌}
use Rattle.std.specs.Prelude.{IsTrue}
use Rattle.std.proofs.lemmas.Int.{ints}
use Rattle.std.proofs.lemmas.List.Elements.{All-weaker, All-map}
use Rattle.grid_base.specs.declared.piece.Piece.{Piece}
use Rattle.grid_graph.specs.declared.grid.Grid.{Grid}
use Rattle.grid_graph.specs.declared.net_spec.NetSpec.{NetSpec}
use Rattle.grid_graph.specs.Borders.{HasBordersInRange}
use Rattle.grid_graph.specs.Grids.{size_of, layout_of}
use Rattle.grid_graph.specs.Layouts.{IsPosition}
use Rattle.grid_graph.specs.Limits.{max_number, max_id}
use Rattle.grid_graph.specs.Nets.{IsNet}
use Rattle.text_scan.specs.Tokens.{is_word}
use Rattle.guide_text.specs.declared.guide.Guide.{Guide}
use Rattle.guide_text.specs.declared.tile_rect.TileRect.{TileRect}
use Rattle.guide_text.specs.Borderlines.{border}
use Rattle.guide_text.specs.Covering.{AreWholeTiles}
use Rattle.guide_text.specs.Guides.{rect_of, tiles_on, IsGuideOf}
use Rattle.guide_text.specs.ReadBack.{IsBorder, IsRectInRange, IsGuideInRange}
use Rattle.guide_text.proofs.BorderOrder.{columns_are_near, rows_are_near}
use Rattle.guide_text.proofs.WholeRects.{rects_are_whole}

border_in_range : (origin tile : ℤ) (index : ℕ) → IsPosition origin → border origin tile index ≤ℤ pos max_number → IsBorder (border origin tile index)
border_in_range origin tile index at near = record { low = omega (arith, ints, at.low); high = omega (arith, ints, near) }

layer_in_range : (g : Grid) (t : TileRect) → AreWholeTiles (size_of g) t → IsBorder (pos (t.layer + 1))
layer_in_range g t whole = record { low = omega (arith, ints); high = omega (arith, ints, whole.layer, (size_of g).within.layer_limit) }

rect_in_range : (g : Grid) → HasBordersInRange g → (t : TileRect) → AreWholeTiles (size_of g) t → IsRectInRange (rect_of g t)
rect_in_range g near t whole =
    let of = layout_of g in
    let x = columns_are_near g t near whole in
    let y = rows_are_near g t near whole in
    record {
      x1 = border_in_range of.origin.0 of.tile.0 t.first_col g.limits.left x.1;
      y1 = border_in_range of.origin.1 of.tile.1 t.first_row g.limits.lower y.1;
      x2 = border_in_range of.origin.0 of.tile.0 (t.last_col + 1) g.limits.left x.0;
      y2 = border_in_range of.origin.1 of.tile.1 (t.last_row + 1) g.limits.lower y.0;
      layer = layer_in_range g t whole;
    }

pub guide_in_range : (g : Grid) (n : NetSpec) (tree : List Piece) (guide : Guide) → HasBordersInRange g → IsNet g n → IsTrue (is_word n.name) → IsGuideOf g n tree guide → IsGuideInRange guide
guide_in_range g n tree guide near net word is = record {
  name = subst (λ (name : List ℕ). IsTrue (is_word name)) (sym is.name) word;
  id = subst (λ id. id ≤ max_id) (sym is.id) net.id;
  rects = subst (All IsRectInRange) (sym is.rects) (All-map IsRectInRange (rect_of g) is.tile_rects
      (All-weaker (AreWholeTiles (size_of g)) (λ t. IsRectInRange (rect_of g t)) (rect_in_range g near) is.tile_rects (rects_are_whole (size_of g) (tiles_on g n tree) is.tile_rects is.longest)));
}
