use Rattle.std.proofs.Common.{◌+◌, sym, ap, subst, arith, pos, ◌≤ℤ◌, ◌∙◌, to_z, of_z, w64}
use Rattle.grid_base.specs.Numbers.{cols, rows, layers}
use Rattle.grid_base.proofs.Extents.{cols_within, rows_within}
use Rattle.grid_graph.specs.Grids.{size_of, layout_of}
use Rattle.grid_graph.specs.Limits.{max_number}
use Rattle.guide_text.proofs.BorderOrder.{border_read, border_written, columns_are_near, rows_are_near, layer_fits}
use Rattle.guide_text.proofs.guides.rect_of.Goals as goal

pub border-requires-clause-near : goal.border-requires-clause-near
border-requires-clause-near c =
    let g = c.args.grid.now in
    subst (λ z. z ≤ℤ pos max_number) (sym (border_read _ _ (layout_of g).origin.0 (layout_of g).tile.0 c.args.tiles.first_col (ap (λ p. p.0) c.origin-origin.ensures) (ap (λ p. p.0) c.tile-tile.ensures) g.limits.left g.limits.tile_width))
    (columns_are_near g c.args.tiles c.requires.near c.requires.whole).1

pub border-requires-2-clause-near : goal.border-requires-2-clause-near
border-requires-2-clause-near c =
    let g = c.args.grid.now in
    subst (λ z. z ≤ℤ pos max_number) (sym (border_read _ _ (layout_of g).origin.1 (layout_of g).tile.1 c.args.tiles.first_row (ap (λ p. p.1) c.origin-origin.ensures) (ap (λ p. p.1) c.tile-tile.ensures) g.limits.lower g.limits.tile_height))
    (rows_are_near g c.args.tiles c.requires.near c.requires.whole).1

pub overflow_add-tiles : goal.overflow_add-tiles
overflow_add-tiles c =
    let s = size_of c.args.grid.now in
    omega (arith, c.requires.whole.in_cols, cols_within (cols s) (rows s) (layers s) s.within)

pub border-requires-3-clause-near : goal.border-requires-3-clause-near
border-requires-3-clause-near c =
    let g = c.args.grid.now in
    subst (λ z. z ≤ℤ pos max_number) (sym (border_read _ _ (layout_of g).origin.0 (layout_of g).tile.0 (c.args.tiles.last_col + 1) (ap (λ p. p.0) c.origin-origin.ensures) (ap (λ p. p.0) c.tile-tile.ensures) g.limits.left g.limits.tile_width))
    (columns_are_near g c.args.tiles c.requires.near c.requires.whole).0

pub overflow_add-tiles-2 : goal.overflow_add-tiles-2
overflow_add-tiles-2 c =
    let s = size_of c.args.grid.now in
    omega (arith, c.requires.whole.in_rows, rows_within (cols s) (rows s) (layers s) s.within)

pub border-requires-4-clause-near : goal.border-requires-4-clause-near
border-requires-4-clause-near c =
    let g = c.args.grid.now in
    subst (λ z. z ≤ℤ pos max_number) (sym (border_read _ _ (layout_of g).origin.1 (layout_of g).tile.1 (c.args.tiles.last_row + 1) (ap (λ p. p.1) c.origin-origin.ensures) (ap (λ p. p.1) c.tile-tile.ensures) g.limits.lower g.limits.tile_height))
    (rows_are_near g c.args.tiles c.requires.near c.requires.whole).0

pub returns : goal.returns
returns c =
    let g = c.args.grid.now in
    let t = c.args.tiles in
    let near_x = columns_are_near g t c.requires.near c.requires.whole in
    let near_y = rows_are_near g t c.requires.near c.requires.whole in
    let o0 = ap (λ p. p.0) c.origin-origin.ensures in
    let o1 = ap (λ p. p.1) c.origin-origin.ensures in
    let t0 = ap (λ p. p.0) c.tile-tile.ensures in
    let t1 = ap (λ p. p.1) c.tile-tile.ensures in
    let x1 = border_written c.border.result _ _ (layout_of g).origin.0 (layout_of g).tile.0 t.first_col c.border.ensures o0 t0 g.limits.left g.limits.tile_width near_x.1 in
    let y1 = border_written c.border-2.result _ _ (layout_of g).origin.1 (layout_of g).tile.1 t.first_row c.border-2.ensures o1 t1 g.limits.lower g.limits.tile_height near_y.1 in
    let x2 = border_written c.border-3.result _ _ (layout_of g).origin.0 (layout_of g).tile.0 (t.last_col + 1) c.border-3.ensures o0 t0 g.limits.left g.limits.tile_width near_x.0 in
    let y2 = border_written c.border-4.result _ _ (layout_of g).origin.1 (layout_of g).tile.1 (t.last_row + 1) c.border-4.ensures o1 t1 g.limits.lower g.limits.tile_height near_y.0 in
    let layer = ap (λ z. to_z w64 (of_z w64 z)) c.from.ensures ∙ layer_fits (size_of g) t.layer c.requires.whole.layer in
    λ i. record { x1 = x1 i; y1 = y1 i; x2 = x2 i; y2 = y2 i; layer = layer i }
