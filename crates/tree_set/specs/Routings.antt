-- Routings.
use Rattle.std.specs.Prelude.{List, All}
use Rattle.std.specs.List.{AllZip}
use Rattle.grid_base.specs.declared.piece.Piece.{Piece}
use Rattle.grid_base.specs.declared.size.Size.{Size}
use Rattle.grid_base.specs.Numbers.{IsPiece}
use Rattle.grid_base.specs.Walks.{JoinsList}
use Rattle.grid_graph.specs.declared.grid.Grid.{Grid}
use Rattle.grid_graph.specs.declared.ground.Ground.{Ground}
use Rattle.grid_graph.specs.declared.net_spec.NetSpec.{NetSpec}
use Rattle.grid_graph.specs.Grids.{Allows, size_of}
use Rattle.grid_graph.specs.Grounds.{IsGround}

-- all are pieces of the size
abbrev pub ArePieces : Size → List Piece → Type 0
ArePieces s pieces = All (IsPiece s) pieces

-- the set keeps to the ground, which allows each of its pieces
abbrev pub KeepsTo : Grid → Ground → List Piece → Type 0
KeepsTo g over pieces = All (Allows g over) pieces

-- a route of a net: a subset of the net's ground that joins the net's terminals; it may hold cycles and loose pieces
pub record IsRoute (g : Grid) (n : NetSpec) (tree : List Piece) : Type 0 where
  pub over : Ground
  pub is_ground : IsGround g n.terminals over
  pub inside : KeepsTo g over tree
  pub joined : JoinsList (size_of g) tree n.terminals

-- a routing: one route per net
abbrev pub IsRouting : Grid → List NetSpec → List (List Piece) → Type 0
IsRouting g nets trees = AllZip (IsRoute g) nets trees
