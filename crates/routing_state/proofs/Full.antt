-- Edges with less than no room have more load than capacity.
use Rattle.std.proofs.Common.{◌≡◌, ◌↔◌, ℕ, ◌<◌, List, Contains, arith, ℤ, pos, ◌-ℤ◌, ◌<ℤ◌}
use Rattle.std.proofs.lemmas.Int.{ints}
use Rattle.std.proofs.lemmas.List.Elements.{All-contains}
use Rattle.grid_base.specs.declared.edge.Edge.{Edge as EdgeNumber}
use Rattle.grid_base.specs.declared.piece.Piece.{Piece}
use Rattle.grid_base.specs.declared.piece.Piece.TheVariants.{Edge, Via}
use Rattle.grid_base.specs.Numbers.{IsPiece}
use Rattle.grid_graph.specs.declared.grid.Grid.{Grid}
use Rattle.grid_graph.specs.Grids.{edge_numbers, size_of}
use Rattle.tree_set.specs.Routings.{ArePieces}
use Rattle.routing_state.specs.Overfull.{HoldsOverfull, IsOverfull}
use Rattle.routing_state.specs.Rooms.{AreRooms}

more_load : (room : ℤ) (most load : ℕ) → room ≡ pos most -ℤ pos load → room <ℤ pos 0 → most < load
more_load room most load is less = omega (arith, ints)

less_room : (room : ℤ) (most load : ℕ) → room ≡ pos most -ℤ pos load → most < load → room <ℤ pos 0
less_room room most load is more = omega (arith, ints)

module _ (g : Grid) (load : ℕ → ℕ) (rooms : List ℤ) (tree : List Piece) (are : AreRooms g load rooms) (pieces : ArePieces (size_of g) tree) where
  number : (e : EdgeNumber) → Contains tree (Edge e) → e.0 < edge_numbers g
  number e held =
      let piece : IsPiece (size_of g) (Edge e) = All-contains (IsPiece (size_of g)) tree (Edge e) pieces held in
      omega (arith, piece.0)

  holds : (p : Piece) → Contains tree p → IsOverfull g rooms p → HoldsOverfull g load tree
  holds (Edge e) held over = record { edge = e; held = held; is_open = over.0; more = more_load _ _ _ (are.each e.0 (number e held)) over.1 }
  holds (Via v) held over = absurd over

  -- a set holds an edge with less than no room exactly where it holds one with more load than capacity
  pub HoldsOverfull-rooms : ((p : Piece) × Contains tree p × IsOverfull g rooms p) ↔ HoldsOverfull g load tree
  HoldsOverfull-rooms = (λ some. holds some.0 some.1 some.2, λ h. (Edge h.edge, h.held, (h.is_open, less_room _ _ _ (are.each h.edge.0 (number h.edge h.held)) h.more)))
