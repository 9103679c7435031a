-- Rooms at loads, as a set is given back or taken.
use Rattle.std.proofs.Common.{◌≡◌, ℕ, ◌+◌, ◌≤◌, ◌<◌, List, All, sym, ◌∙◌, subst, arith, ℤ, pos, ◌+ℤ◌, ◌-ℤ◌}
use Rattle.std.proofs.lemmas.Int.{ints}
use Rattle.grid_base.specs.declared.piece.Piece.{Piece}
use Rattle.grid_graph.specs.declared.grid.Grid.{Grid}
use Rattle.grid_graph.specs.Grids.{edge_numbers}
use Rattle.grid_graph.specs.Limits.{max_capacity}
use Rattle.tree_set.specs.Limits.{max_routing_load}
use Rattle.tree_set.specs.Loads.{net_load}
use Rattle.routing_state.specs.Lacks.{HasRoomToMove}
use Rattle.routing_state.specs.Rooms.{AreRooms, Gives}
use Rattle.routing_state.proofs.Giving.{same_default}

small_room : (room : ℤ) (most load : ℕ) → room ≡ pos most -ℤ pos load → most ≤ max_capacity → load ≤ max_routing_load → HasRoomToMove room
small_room room most load is few little = omega (arith, ints)

-- the rooms at loads that nets can have may move
pub HasRoomToMove-rooms : (g : Grid) (load : ℕ → ℕ) (rooms : List ℤ) → AreRooms g load rooms → ((e : ℕ) → e < edge_numbers g → load e ≤ max_routing_load) → All HasRoomToMove rooms
HasRoomToMove-rooms g load rooms are small = λ k d below.
    let number : k < edge_numbers g = omega (arith, below, are.long) in
    subst HasRoomToMove (same_default rooms k d (pos 0) below)
    (small_room _ _ _ (are.each k number) (g.table.within k) (small k number))

given_back : (most had left used : ℕ) (with without : ℤ) → with ≡ pos most -ℤ pos had → without ≡ with +ℤ pos used → had ≡ left + used → without ≡ pos most -ℤ pos left
given_back most had left used with without is gives parts = omega (arith, ints)

taken_off : (most has left used : ℕ) (with without : ℤ) → without ≡ pos most -ℤ pos left → without ≡ with +ℤ pos used → has ≡ left + used → with ≡ pos most -ℤ pos has
taken_off most has left used with without is gives parts = omega (arith, ints)

-- where what a set uses is given back, the rooms are those at the load without it
pub AreRooms-given : (g : Grid) (width : ℕ) (tree : List Piece) (had left : ℕ → ℕ) (with without : List ℤ) → Gives g width tree with without → AreRooms g had with
    → ((e : ℕ) → e < edge_numbers g → had e ≡ left e + net_load g width tree e) → AreRooms g left without
AreRooms-given g width tree had left with without gives are parts = record {
  long = sym gives.long ∙ are.long;
  each = λ e number. given_back _ _ _ _ _ _ (are.each e number) (gives.each e) (parts e number);
}

-- and where it is taken, those at the load with it
pub AreRooms-taken : (g : Grid) (width : ℕ) (tree : List Piece) (has left : ℕ → ℕ) (with without : List ℤ) → Gives g width tree with without → AreRooms g left without
    → ((e : ℕ) → e < edge_numbers g → has e ≡ left e + net_load g width tree e) → AreRooms g has with
AreRooms-taken g width tree has left with without gives are parts = record {
  long = gives.long ∙ are.long;
  each = λ e number. taken_off _ _ _ _ _ _ (are.each e number) (gives.each e) (parts e number);
}
