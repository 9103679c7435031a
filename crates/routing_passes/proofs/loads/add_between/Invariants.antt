use Rattle.std.proofs.Common.{◌≡◌, ◌≤◌, ◌+◌, ◌-◌, ◌*◌, ℕ, length, slice_index}
use Rattle.tree_set.specs.Loads.{load_between, max_tree_load}
use Rattle.sharing_runs.specs.RepairRuns.{at_positions}
use Rattle.routing_passes.proofs.loads.add_between.Given as goal

-- the nets so far were added
abbrev pub invariant-loop-i : goal.invariant-loop-i
invariant-loop-i l = record {
  loads : (r : ℕ) → slice_index l.loads r ≡ slice_index l.initial.loads r
      + load_between l.design.grid (at_positions l.design.nets l.positions) (at_positions l.trees l.positions) l.from l.i r;
  limit : (r : ℕ) → slice_index l.loads r ≤ slice_index l.initial.loads r + (l.i - l.from) * max_tree_load;
  long : length l.loads ≡ length l.initial.loads;
}
