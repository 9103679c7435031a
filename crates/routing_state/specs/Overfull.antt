-- Edges with more load than capacity.
use Rattle.std.specs.Prelude.{ℕ, ◌≡◌, ◌<◌, ℤ, pos, ◌<ℤ◌, List, Contains, slice_index_or}
use Rattle.grid_base.specs.declared.edge.Edge.{Edge as EdgeNumber}
use Rattle.grid_base.specs.declared.piece.Piece.{Piece}
use Rattle.grid_base.specs.declared.piece.Piece.TheVariants.{Edge, Via}
use Rattle.grid_graph.specs.declared.grid.Grid.{Grid}
use Rattle.grid_graph.specs.declared.kind.Kind.TheVariants.{Open}
use Rattle.grid_graph.specs.Grids.{capacity, kind}

-- the piece is an open edge with less than no room
abbrev pub IsOverfull : Grid → List ℤ → Piece → Type 0
IsOverfull g rooms (Edge e) = (kind g e.0 ≡ Open) × (slice_index_or rooms e.0 (pos 0) <ℤ pos 0)
IsOverfull g rooms (Via v) = ⊥

-- the set holds an open edge with more load than capacity
pub record HoldsOverfull (g : Grid) (load : ℕ → ℕ) (tree : List Piece) : Type 0 where
  pub edge : EdgeNumber
  pub held : Contains tree (Edge edge)
  pub is_open : kind g edge.0 ≡ Open
  pub more : capacity g edge.0 < load edge.0
