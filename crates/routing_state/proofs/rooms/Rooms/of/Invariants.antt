use Rattle.std.proofs.Common.{ℕ, ◌≡◌, ◌<◌, length, pos}
use Rattle.std.specs.Prelude.{slice_index_or}
use Rattle.grid_graph.specs.Grids.{capacity}
use Rattle.routing_state.proofs.rooms.Rooms.of.Given as goal

-- the edges so far have the room of their capacity
abbrev pub invariant-loop-e : goal.invariant-loop-e
invariant-loop-e l = record {
  long : length l.rooms.items ≡ l.e;
  each : (k : ℕ) → k < l.e → slice_index_or l.rooms.items k (pos 0) ≡ pos (capacity l.grid k);
}
