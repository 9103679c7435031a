-- The nodes of a net's terminals.
use Rattle.std.specs.Prelude.{ℕ, ◌≡◌, List, Contains, slice_index}
use Rattle.grid_base.specs.declared.size.Size.{Size}
use Rattle.grid_base.specs.declared.vertex.Vertex.{Vertex}
use Rattle.grid_graph.specs.Flat.{tile_of}

-- the node is that of the tile of some of these vertices
pub record IsNodeOfSome (s : Size) (nodes : List ℕ) (terminals : List Vertex) (node : ℕ) : Type 0 where
  pub vertex : Vertex
  pub listed : Contains terminals vertex
  pub stands : slice_index nodes (tile_of s vertex.0) ≡ node
