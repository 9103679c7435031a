-- What the history of a share has of a sharing run: all that its workers read, one reading after another.
use Rattle.std.specs.Prelude.{ℕ, ◌≡◌, List, length, Option}
use Rattle.std.specs.List.{flat_map, range_with_len}
use Rattle.grid_base.specs.declared.piece.Piece.{Piece}
use Rattle.grid_graph.specs.declared.design.Design.{Design}
use Rattle.load_core.specs.declared.loaded.Loaded.{Loaded}
use Rattle.sharing_runs.specs.SharingRuns.{IsSharingRun}
use Rattle.routing_passes.specs.Histories.{parts_history}

-- those of all workers in so many phases, in order of phase, and then of part and stretch
abbrev pub run_history : ℕ → ℕ → (ℕ → ℕ → List ℕ) → ℕ → List Loaded
run_history workers nets read phases = flat_map (λ phase. parts_history workers nets (read phase) 0 workers)
    (range_with_len 0 phases)

-- the sets of all phases are a sharing run, and what was read in it is this history
pub record IsRecordedRun (d : Design) (workers : ℕ) (budget : Option ℕ) (phases : List (List (List Piece)))
    (history : List Loaded) : Type 0 where
  pub run : IsSharingRun d workers budget phases
  pub recorded : history ≡ run_history workers (length d.nets) run.read (length phases)
