-- A set that holds an overfull edge has less than no room on a piece, as narrow rooms tell it too.
use Rattle.std.proofs.Common.{ℕ, List, sym, subst, arith, ℤ, pos, negsuc, ◌<ℤ◌, map}
use Rattle.std.specs.List.{Any}
use Rattle.std.proofs.lemmas.Int.{ints}
use Rattle.std.proofs.Math.ListN.{get_or-map}
use Rattle.grid_base.specs.declared.piece.Piece.{Piece}
use Rattle.grid_base.specs.declared.piece.Piece.TheVariants.{Edge, Via}
use Rattle.grid_graph.specs.declared.grid.Grid.{Grid}
use Rattle.grid_graph.specs.Grids.{size_of}
use Rattle.tree_set.specs.Routings.{ArePieces}
use Rattle.routing_state.specs.Clipped.{clipped}
use Rattle.routing_state.specs.Overfull.{HoldsOverfull, IsOverfull}
use Rattle.routing_state.specs.Rooms.{AreRooms}
use Rattle.routing_state.proofs.Full.{HoldsOverfull-rooms}
use Rattle.negotiation.specs.Lacking.{IsLacking}

clipped-below : (room : ℤ) → room <ℤ pos 0 → clipped room <ℤ pos 0
clipped-below (pos n) below = absurd (omega (arith, ints, below))
clipped-below (negsuc n) below = omega (arith, ints)

lacking : (g : Grid) (rooms : List ℤ) (p : Piece) → IsOverfull g rooms p → IsLacking (map clipped rooms) p
lacking g rooms (Edge e) over = subst (λ (room : ℤ). room <ℤ pos 0) (sym (get_or-map clipped rooms e.0 (pos 0))) (clipped-below _ over.1)
lacking g rooms (Via v) over = absurd over

pub lacks_where : (g : Grid) (load : ℕ → ℕ) (rooms : List ℤ) (tree : List Piece) → AreRooms g load rooms → ArePieces (size_of g) tree → HoldsOverfull g load tree
    → Any (IsLacking (map clipped rooms)) tree
lacks_where g load rooms tree are pieces holds =
    let over = (HoldsOverfull-rooms g load rooms tree are pieces).1 holds in
    (over.1.0, over.0, over.1.1, over.1.2, lacking g rooms over.0 over.2)
