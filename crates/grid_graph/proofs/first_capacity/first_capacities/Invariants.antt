use Rattle.std.proofs.Common.{ℕ, ◌≡◌, ◌<◌, length, slice_index}
use Rattle.grid_graph.specs.Capacities.{layer_capacity}
use Rattle.grid_graph.specs.Layouts.{layout_of_parts}
use Rattle.grid_graph.proofs.first_capacity.first_capacities.Given as goal

-- the table is right as far as it goes
abbrev pub invariant-loop-e : goal.invariant-loop-e
invariant-loop-e l = record {
  long : length l.capacities.items ≡ l.e;
  value : (k : ℕ) → k < l.e → slice_index l.capacities.items k ≡ layer_capacity (layout_of_parts l.parts) k;
}
