-- Pins that lie on the grid.
use Rattle.std.proofs.Common.{◌≡◌, ℕ, ◌<◌, ◌≤◌, Bool, true, false, ◌||◌, Option, None, Some, IfSome, sym, subst, ℤ, pos, negsuc, ◌≤ℤ◌, ltb-false, int_lt, rules}
use Rattle.std.specs.Option.{option_zip}
use Rattle.grid_base.specs.Numbers.{cols, rows}
use Rattle.grid_graph.specs.declared.grid.Grid.{Grid}
use Rattle.grid_graph.specs.Grids.{layout_of, size_of, tile_of_position}
use Rattle.grid_graph.specs.Tiles.{tile_index}
use Rattle.grid_graph.proofs.Positions.{tile_below}

or_second : (a b : Bool) → (a || b) ≡ false → b ≡ false
or_second true b none = cc
or_second false b none = none

-- a layer that is not above the last
pub not_above : (z : ℤ) (n : ℕ) → (int_lt z (pos 1) || int_lt (pos n) z) ≡ false → z ≤ℤ pos n
not_above (pos m) n on = let low : m ≤ n = ltb-false n m (or_second (int_lt (pos m) (pos 1)) (int_lt (pos n) (pos m)) on) in search rules
not_above (negsuc m) n on = search rules

zip_within : (a b : Option ℕ) (m n : ℕ) (t : ℕ × ℕ) → IfSome a (λ i. i < m) → IfSome b (λ i. i < n) → option_zip a b ≡ Some t → (t.0 < m) × (t.1 < n)
zip_within None b m n t first second is = absurd (cc is)
zip_within (Some i) None m n t first second is = absurd (cc is)
zip_within (Some i) (Some j) m n t first second is = let same : t ≡ (i, j) = cc in subst (λ u. (u.0 < m) × (u.1 < n)) (sym same) (first, second)

-- the tile of a position is one of the grid
pub tile_inside : (g : Grid) (x y : ℤ) (t : ℕ × ℕ) → tile_of_position g x y ≡ Some t → (t.0 < cols (size_of g)) × (t.1 < rows (size_of g))
tile_inside g x y t is =
    let of = layout_of g in
    let s = size_of g in
    zip_within (tile_index of.origin.0 of.tile.0 (cols s) x) (tile_index of.origin.1 of.tile.1 (rows s) y) (cols s) (rows s) t
    (tile_below of.origin.0 of.tile.0 (cols s) x g.limits.tile_width.low s.within.has_col)
    (tile_below of.origin.1 of.tile.1 (rows s) y g.limits.tile_height.low s.within.has_row)
    is
