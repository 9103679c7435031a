-- The room that nets leave on the edges.
use Rattle.std.specs.Prelude.{ℕ, ◌≡◌, ◌<◌, ℤ, pos, ◌+ℤ◌, ◌-ℤ◌, List, length, slice_index_or}
use Rattle.grid_base.specs.declared.piece.Piece.{Piece}
use Rattle.grid_graph.specs.declared.grid.Grid.{Grid}
use Rattle.grid_graph.specs.Grids.{capacity, edge_numbers}
use Rattle.tree_set.specs.Loads.{net_load}

-- the rooms at this load: of each edge its capacity less the load
pub record AreRooms (g : Grid) (load : ℕ → ℕ) (rooms : List ℤ) : Type 0 where
  pub long : length rooms ≡ edge_numbers g
  pub each : (e : ℕ) → e < edge_numbers g → slice_index_or rooms e (pos 0) ≡ pos (capacity g e) -ℤ pos (load e)

-- without a net of this width and set, the rooms are more by what it uses of each edge
pub record Gives (g : Grid) (width : ℕ) (tree : List Piece) (with without : List ℤ) : Type 0 where
  pub long : length with ≡ length without
  pub each : (e : ℕ) → slice_index_or without e (pos 0) ≡ slice_index_or with e (pos 0) +ℤ pos (net_load g width tree e)
