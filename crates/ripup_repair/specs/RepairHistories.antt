-- What the history of a share has of a repair run, and what repair makes of a chosen routing.
use Rattle.std.specs.Prelude.{ℕ, ◌≡◌, ◌+◌, List, [], ◌++◌, length, slice_index_or}
use Rattle.std.specs.List.{flat_map, range_with_len}
use Rattle.grid_base.specs.declared.piece.Piece.{Piece}
use Rattle.grid_base.specs.Lists.{At}
use Rattle.grid_graph.specs.declared.design.Design.{Design}
use Rattle.load_core.specs.declared.loaded.Loaded.{Loaded}
use Rattle.tree_set.specs.Loads.{load_list}
use Rattle.routing_stages.specs.declared.chosen.Chosen.{Chosen}
use Rattle.routing_stages.specs.declared.routed.Routed.{Routed}
use Rattle.routing_stages.specs.declared.settings.Settings.{Settings}
use Rattle.routing_stages.specs.Whole.{IsWholeShare}
use Rattle.routing_passes.specs.Histories.{parts_history}
use Rattle.sharing_runs.specs.RepairRuns.{nets_to_repair, IsRepairRun, IsRepairResult}

-- the readings of a round of so many workers that begins with these sets
abbrev pub round_history : Design → ℕ → List (List Piece) → (ℕ → List ℕ) → List Loaded
round_history d workers before read = parts_history workers (length (nets_to_repair d before)) read 0 workers

-- those of so many rounds, in order of round, and then of part and stretch
abbrev pub repair_history : Design → ℕ → List (List (List Piece)) → (ℕ → ℕ → List ℕ) → ℕ → List Loaded
repair_history d workers routings read rounds =
    flat_map (λ round. round_history d workers (slice_index_or routings round []) (read round)) (range_with_len 0 rounds)

-- what repair hands on is the result of a repair run that starts with the chosen sets: the one share has the load of its last
-- routing, and its history goes on with the readings of this run
pub record IsRepaired (d : Design) (workers : ℕ) (settings : Settings) (chosen : Chosen) (r : Routed) : Type 0 where
  pub routings : List (List (List Piece))
  pub run : IsRepairRun d workers settings.budget settings.rounds routings
  pub begins : At routings 0 chosen.trees
  pub result : IsRepairResult d routings r.trees
  pub rounds : length routings ≡ r.rounds + 1
  pub last : (trees : List (List Piece)) → At routings r.rounds trees
      → IsWholeShare r.table (load_list d.grid d.nets trees) r.share
  pub history : r.share.party.history ≡ chosen.share.party.history ++ repair_history d workers routings run.read r.rounds
