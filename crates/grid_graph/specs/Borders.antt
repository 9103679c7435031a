-- Grids whose borders are in the range of the numbers of a design.
use Rattle.std.specs.Prelude.{◌*◌, pos, ◌+ℤ◌, ◌≤ℤ◌, nat_abs}
use Rattle.grid_base.specs.Numbers.{cols, rows}
use Rattle.grid_graph.specs.declared.grid.Grid.{Grid}
use Rattle.grid_graph.specs.Grids.{layout_of}
use Rattle.grid_graph.specs.Limits.{max_number}

-- the right and the upper border are no further from zero than the numbers of a design; the others never are
pub record HasBordersInRange (g : Grid) : Type 0 where
  pub right : ((layout_of g).origin.0 +ℤ pos (cols (layout_of g).size * nat_abs (layout_of g).tile.0)) ≤ℤ pos max_number
  pub upper : ((layout_of g).origin.1 +ℤ pos (rows (layout_of g).size * nat_abs (layout_of g).tile.1)) ≤ℤ pos max_number
