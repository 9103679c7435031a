-- Pieces between tiles, what they weigh where vias weigh nothing, and vertices by their tiles.
use Rattle.std.specs.Prelude.{ℕ, ◌≡◌, ◌≤◌, List, map}
use Rattle.grid_base.specs.declared.edge.Edge.{Edge as EdgeNumber}
use Rattle.grid_base.specs.declared.piece.Piece.{Piece}
use Rattle.grid_base.specs.declared.piece.Piece.TheVariants.{Edge, Via}
use Rattle.grid_base.specs.declared.size.Size.{Size}
use Rattle.grid_base.specs.declared.vertex.Vertex.{Vertex}
use Rattle.grid_base.specs.declared.via.Via.{Via as ViaNumber}
use Rattle.grid_base.specs.Numbers.{IsPiece}
use Rattle.grid_graph.specs.Flat.{tile_of, tile_edge_of}
use Rattle.grid_graph.specs.Weighed.{Weighs}

-- the tiles of terminals
abbrev pub tiles_of : Size → List Vertex → List Vertex
tiles_of s terminals = map (λ v. record { 0 = tile_of s v.0 }) terminals

-- the piece between tiles that an edge stands over
abbrev pub tile_edge : Size → EdgeNumber → Piece
tile_edge s e = Edge (record { 0 = tile_edge_of s e.0 })

-- each via is in the list, and weighs nothing
abbrev pub HasFreeVias : Size → List (Piece × ℕ) → Type 0
HasFreeVias s pieces = (v : ViaNumber) → IsPiece s (Via v) → Weighs pieces (Via v) 0

-- a list has just the tile edges over which another has edges, each with the least weight of these: no edge weighs less
-- than its tile edge, and some edge over it as much
pub record AreLeastBetweenTiles (s : Size) (pieces across : List (Piece × ℕ)) : Type 0 where
  pub below : (e : EdgeNumber) (weight : ℕ) → Weighs pieces (Edge e) weight → (least : ℕ) × Weighs across (tile_edge s e) least × (least ≤ weight)
  pub attained : (p : Piece) (least : ℕ) → Weighs across p least → (e : EdgeNumber) × Weighs pieces (Edge e) least × (p ≡ tile_edge s e)
