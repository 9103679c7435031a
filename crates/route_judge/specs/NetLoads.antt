-- The loads of routes.
use Rattle.std.specs.Prelude.{◌≡◌, ℕ, List, slice_index}
use Rattle.grid_base.specs.declared.piece.Piece.{Piece}
use Rattle.grid_graph.specs.declared.design.Design.{Design}
use Rattle.route_text.specs.declared.block.Block.{Block}
use Rattle.tree_set.specs.Loads.{load}
use Rattle.route_judge.specs.NetSets.{AreSetsOf, AreJoining}

-- the load of each edge number, by the sets that the blocks give the nets, which join the nets' terminals
pub record AreLoadsOf (d : Design) (blocks : List Block) (loads : List ℕ) : Type 0 where
  pub trees : List (List Piece)
  pub sets : AreSetsOf d blocks trees
  pub joining : AreJoining d trees
  pub of_trees : (e : ℕ) → slice_index loads e ≡ load d.grid d.nets trees e
