use Rattle.std.proofs.Common.{◌≡◌, ℕ}
use Rattle.straight_runs.specs.LoadSums.{AreLoadSums}
use Rattle.straight_runs.proofs.NetLoads.{so_far}
use Rattle.straight_runs.proofs.load_sums.LoadSums.add_net.Given as goal

-- the runs so far are added
abbrev pub invariant-loop-run : goal.invariant-loop-run
invariant-loop-run l = record {
  same : l.self.size ≡ l.initial.self.size;
  added : (load : ℕ → ℕ) → AreLoadSums load l.initial.self → AreLoadSums (so_far l.grid l.width l.runs l.run-index load) l.self;
}
