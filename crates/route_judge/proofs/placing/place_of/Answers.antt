use Rattle.std.proofs.Common.{◌≡◌, ℕ, ◌<◌, Option, None, Some, IfSome, sym, ◌∙◌, ap, subst, ℤ}
use Rattle.std.specs.Option.{option_zip}
use Rattle.grid_base.specs.Numbers.{cols, rows, layers}
use Rattle.grid_graph.specs.declared.grid.Grid.{Grid}
use Rattle.grid_graph.specs.Grids.{layout_of, size_of, tile_of_position}
use Rattle.grid_graph.specs.Tiles.{tile_index}
use Rattle.grid_graph.proofs.Positions.{tile_below}
use Rattle.route_judge.proofs.placing.place_of.Goals as goal

zip_within : (a b : Option ℕ) (m n : ℕ) (t : ℕ × ℕ) → IfSome a (λ i. i < m) → IfSome b (λ i. i < n) → option_zip a b ≡ Some t → (t.0 < m) × (t.1 < n)
zip_within None b m n t first second is = absurd (cc is)
zip_within (Some i) None m n t first second is = absurd (cc is)
zip_within (Some i) (Some j) m n t first second is = let same : t ≡ (i, j) = cc in subst (λ u. (u.0 < m) × (u.1 < n)) (sym same) (first, second)

tile_inside : (g : Grid) (x y : ℤ) (t : ℕ × ℕ) → tile_of_position g x y ≡ Some t → (t.0 < cols (size_of g)) × (t.1 < rows (size_of g))
tile_inside g x y t is =
    let of = layout_of g in
    let s = size_of g in
    zip_within (tile_index of.origin.0 of.tile.0 (cols s) x) (tile_index of.origin.1 of.tile.1 (rows s) y) (cols s) (rows s) t
    (tile_below of.origin.0 of.tile.0 (cols s) x g.limits.tile_width.low s.within.has_col)
    (tile_below of.origin.1 of.tile.1 (rows s) y g.limits.tile_height.low s.within.has_row)
    is

pub returns-clause-inside : goal.returns-clause-inside
returns-clause-inside c =
    let tile = tile_inside c.args.grid.now _ _ (c.in_ok-col.col, c.in_ok-col.row) (sym c.in_ok-col.ensures) in
    (tile.0, tile.1, subst (λ n. c.in_ok-layer.layer < n) (c.layers.ensures ∙ ap layers c.size.ensures) c.in_ok-layer.ensures.inside)
