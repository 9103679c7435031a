-- What is put on a list of runs, and for which wall a run is refused.
use Rattle.std.specs.Prelude.{◌≡◌, ◌↔◌, ◌⊎◌, All, List, Contains}
use Rattle.straight_runs.specs.declared.run.Run.{Run}
use Rattle.straight_runs.specs.Runs.{IsStraightRun, pieces_of}
use Rattle.grid_base.specs.declared.edge.Edge.{Edge as EdgeNumber}
use Rattle.grid_base.specs.declared.piece.Piece.{Piece}
use Rattle.grid_base.specs.declared.piece.Piece.TheVariants.{Edge}
use Rattle.grid_graph.specs.declared.grid.Grid.{Grid}
use Rattle.grid_graph.specs.declared.ground.Ground.TheVariants.{WithChoked}
use Rattle.grid_graph.specs.declared.kind.Kind.TheVariants.{Wall}
use Rattle.grid_graph.specs.Grids.{Allows, kind, size_of}
use Rattle.route_judge.specs.declared.reason.Reason.{Reason}
use Rattle.route_judge.specs.declared.stop.Stop.{Stop}
use Rattle.route_judge.specs.declared.stop.Stop.TheVariants.{Refused, NoMemory}

-- exactly the pieces with a property were put on a list of runs, as runs, and none of them is a wall
pub record ArePut (g : Grid) (Wanted : Piece → Type 0) (old new : List Run) : Type 0 where
  pub pieces : (p : Piece) → Contains (pieces_of (size_of g) new) p ↔ (Contains (pieces_of (size_of g) old) p ⊎ Wanted p)
  pub no_wall : (p : Piece) → Wanted p → Allows g WithChoked p
  pub runs : All (IsStraightRun (size_of g)) old → All (IsStraightRun (size_of g)) new

-- one of the edges with a property is a wall
abbrev pub HasWall : Grid → (Piece → Type 0) → Type 0
HasWall g Wanted = (e : EdgeNumber) × Wanted (Edge e) × (kind g e.0 ≡ Wall)

-- one of them is a wall, for which this is the reason; want of memory has no cause
abbrev pub IsForWall : Grid → (Piece → Type 0) → Reason → Stop → Type 0
IsForWall g Wanted reason (Refused given) = (given ≡ reason) × HasWall g Wanted
IsForWall g Wanted reason NoMemory = Unit {0}
