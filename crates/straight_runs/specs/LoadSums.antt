-- Loads of edges, kept as differences along lines.
use Rattle.std.specs.Prelude.{ℕ, cond}
use Rattle.grid_base.specs.declared.size.Size.{Size}
use Rattle.tree_set.specs.Loads.{holds}
use Rattle.straight_runs.specs.declared.load_sums.LoadSums.{LoadSums}
use Rattle.straight_runs.specs.declared.run.Run.{Run}
use Rattle.straight_runs.specs.Differences.{AreDifferences}
use Rattle.straight_runs.specs.Runs.{run_pieces}

-- what a run with a demand adds to the load of an edge: the demand, if it has the edge
abbrev pub run_load : Size → Run → ℕ → ℕ → ℕ
run_load s run demand e = cond (holds (run_pieces s run) e) demand 0

-- the sums so far are these loads of the edges
abbrev pub AreLoadSums : (ℕ → ℕ) → LoadSums → Type 0
AreLoadSums load sums = AreDifferences sums.size load sums.differences.items
