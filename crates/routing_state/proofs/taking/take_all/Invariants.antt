use Rattle.std.proofs.Common.{◌≡◌, ◌≤◌, ◌*◌, length, sum_by, take, All}
use Rattle.std.specs.List.{zip}
use Rattle.grid_base.specs.Limits.{max_vertices}
use Rattle.tree_set.specs.Loads.{net_load}
use Rattle.tree_set.specs.Order.{IsRising}
use Rattle.routing_state.specs.Rooms.{AreRooms}
use Rattle.routing_state.proofs.taking.take_all.Given as goal

-- the rooms and the number of pieces are those of the nets so far
abbrev pub invariant-loop-net : goal.invariant-loop-net
invariant-loop-net l = record {
  rooms : AreRooms l.design.grid (λ e. sum_by (λ x. net_load l.design.grid x.0.width x.1 e) (take l.net (zip l.design.nets l.trees))) l.rooms.rooms.items;
  wirelength : l.wirelength ≡ sum_by length (take l.net l.trees);
  small : l.wirelength ≤ l.net * (3 * max_vertices);
  rising : All IsRising (take l.net l.trees);
}
