use Rattle.std.proofs.Common.{◌≡◌, ◌≤◌, ◌*◌, ℕ, length, take, slice_index}
use Rattle.grid_graph.specs.Grids.{entries}
use Rattle.routing_passes.specs.Passes.{max_phase_load, positions_load}
use Rattle.routing_passes.proofs.loads.loads_of.Given as goal

-- the lists so far were added
abbrev pub invariant-loop-trees : goal.invariant-loop-trees
invariant-loop-trees l = record {
  loads : (r : ℕ) → slice_index l.loads.items r
      ≡ positions_load l.design (take l.trees-index l.earlier) l.positions l.from l.to r;
  limit : (r : ℕ) → slice_index l.loads.items r ≤ l.trees-index * max_phase_load;
  long : length l.loads.items ≡ entries l.design.grid;
}
