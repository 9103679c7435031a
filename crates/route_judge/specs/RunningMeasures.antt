-- What is summed up of the sets that blocks give the nets.
use Rattle.std.specs.Prelude.{◌≡◌, List}
use Rattle.straight_runs.specs.LoadSums.{AreLoadSums}
use Rattle.grid_base.specs.declared.piece.Piece.{Piece}
use Rattle.grid_graph.specs.declared.design.Design.{Design}
use Rattle.grid_graph.specs.declared.ground.Ground.{Ground}
use Rattle.grid_graph.specs.Grids.{size_of}
use Rattle.route_text.specs.declared.block.Block.{Block}
use Rattle.tree_set.specs.Loads.{load}
use Rattle.tree_set.specs.Measures.{wirelength}
use Rattle.route_judge.specs.declared.running_measure.RunningMeasure.{RunningMeasure}
use Rattle.route_judge.specs.Measured.{beyond_count}
use Rattle.route_judge.specs.NetSets.{AreSetsOf, AreJoining}

-- the sums are those of one set per net
pub record AreSums (d : Design) (over : List Ground) (trees : List (List Piece)) (sums : RunningMeasure) : Type 0 where
  pub sized : sums.loads.size ≡ size_of d.grid
  pub loaded : AreLoadSums (load d.grid d.nets trees) sums.loads
  pub long : sums.wirelength ≡ wirelength trees
  pub outside : sums.beyond ≡ beyond_count d.grid over trees

-- the sums are those of the sets that the blocks give the nets, which join the nets' terminals
pub record AreSumsOf (d : Design) (over : List Ground) (blocks : List Block) (sums : RunningMeasure) : Type 0 where
  pub trees : List (List Piece)
  pub sets : AreSetsOf d blocks trees
  pub joining : AreJoining d trees
  pub sums_of : AreSums d over trees sums
