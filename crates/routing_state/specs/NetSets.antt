-- The sets of the nets of a design.
use Rattle.std.specs.Prelude.{◌≡◌, List, All, length}
use Rattle.grid_base.specs.declared.piece.Piece.{Piece}
use Rattle.grid_graph.specs.declared.design.Design.{Design}
use Rattle.grid_graph.specs.declared.ground.Ground.TheVariants.{WithChoked}
use Rattle.tree_set.specs.Routings.{KeepsTo}

-- one set per net, each of pieces of the grid and without a wall
pub record AreNetSets (d : Design) (trees : List (List Piece)) : Type 0 where
  pub one_each : length trees ≡ length d.nets
  pub no_walls : All (KeepsTo d.grid WithChoked) trees
