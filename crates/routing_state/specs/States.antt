-- States of a routing: one set for each net, with rooms and totals.
use Rattle.std.specs.Prelude.{◌≡◌, ℤ, List, All}
use Rattle.grid_base.specs.declared.piece.Piece.{Piece}
use Rattle.grid_graph.specs.declared.design.Design.{Design}
use Rattle.tree_set.specs.Loads.{load}
use Rattle.tree_set.specs.Order.{IsRising}
use Rattle.routing_state.specs.declared.state.RoutingState.{RoutingState}
use Rattle.routing_state.specs.declared.totals.Totals.{Totals}
use Rattle.routing_state.specs.NetSets.{AreNetSets}
use Rattle.routing_state.specs.Rooms.{AreRooms}
use Rattle.routing_state.specs.Totals.{totals_of}

-- what a state keeps: the sets, the rooms, and the overflow and the wirelength
abbrev pub trees_of : RoutingState → List (List Piece)
trees_of s = s.trees.items

abbrev pub rooms_of : RoutingState → List ℤ
rooms_of s = s.rooms.rooms.items

abbrev pub totals_in : RoutingState → Totals
totals_in s = record { overflow = s.rooms.lacking; wirelength = s.wirelength }

-- a state of the design: the rooms and the totals are those of its sets
pub record IsStateOf (d : Design) (s : RoutingState) : Type 0 where
  pub sets : AreNetSets d (trees_of s)
  pub rising : All IsRising (trees_of s)
  pub rooms : AreRooms d.grid (load d.grid d.nets (trees_of s)) (rooms_of s)
  pub totals : totals_in s ≡ totals_of d (trees_of s)
