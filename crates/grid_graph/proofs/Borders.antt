-- Positions in a grid whose borders are in range.
use Rattle.std.proofs.Common.{ℕ, ◌+◌, ◌*◌, ◌<◌, ◌≤◌, arith, ℤ, pos, ◌+ℤ◌, ◌≤ℤ◌, nat_abs}
use Rattle.std.proofs.lemmas.Int.{ints}
use Rattle.std.proofs.Math.Nat.{mul-le-mul_right}
use Rattle.grid_base.specs.Numbers.{cols, rows, IsVertex, col_of, row_of}
use Rattle.grid_base.proofs.Places.{place_at-inside}
use Rattle.grid_graph.specs.declared.grid.Grid.{Grid}
use Rattle.grid_graph.specs.Layouts.{IsPosition}
use Rattle.grid_graph.specs.Grids.{layout_of, size_of, position_of}
use Rattle.grid_graph.specs.Borders.{HasBordersInRange}
use Rattle.grid_graph.specs.Limits.{max_number}
use Rattle.grid_graph.specs.Tiles.{written_position}

-- the position written for a tile lies between the borders
position_along : (origin tile : ℤ) (count index : ℕ) → IsPosition origin → (origin +ℤ pos (count * nat_abs tile)) ≤ℤ pos (max_number) → index < count → IsPosition (written_position origin tile index)
position_along origin tile count index corner border inside =
    let more : (index + 1) * nat_abs tile ≤ count * nat_abs tile = mul-le-mul_right (nat_abs tile) (omega arith) in
    record {
      low = omega (arith, ints, corner.low);
      high = omega (arith, ints, border, more);
    }

-- the position written for a vertex of such a grid is within the range of the numbers of a design
pub position_in_range : (g : Grid) (v : ℕ) → HasBordersInRange g → IsVertex (size_of g) v → IsPosition (position_of g v).0 × IsPosition (position_of g v).1
position_in_range g v borders vertex =
    let place = place_at-inside (size_of g) v vertex in (
      position_along (layout_of g).origin.0 (layout_of g).tile.0 (cols (size_of g)) (col_of (size_of g) v) g.limits.left borders.right place.0,
      position_along (layout_of g).origin.1 (layout_of g).tile.1 (rows (size_of g)) (row_of (size_of g) v) g.limits.lower borders.upper place.1,
    )
