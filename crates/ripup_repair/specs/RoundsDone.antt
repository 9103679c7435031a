-- Rounds of repair that have been.
use Rattle.std.specs.Prelude.{ℕ, ◌≡◌, ◌≤◌, ◌<◌, List, ◌∷◌, ◌++◌, length, Option, All}
use Rattle.atomic_table.specs.Seated.{TableId}
use Rattle.grid_base.specs.declared.piece.Piece.{Piece}
use Rattle.grid_base.specs.Lists.{At}
use Rattle.grid_graph.specs.declared.design.Design.{Design}
use Rattle.grid_graph.specs.Grids.{entries}
use Rattle.edge_prices.specs.Vectors.{IsLoadList}
use Rattle.load_core.specs.Parties.{share_at, whole_allotment}
use Rattle.load_table.specs.Holdings.{Holding}
use Rattle.tree_set.specs.Loads.{load_list, load_on}
use Rattle.tree_set.specs.Routings.{IsRouting}
use Rattle.sharing_runs.specs.RepairRuns.{IsRepairResult, IsRepairRound, IsRepairRun, routing_overflow}
use Rattle.ripup_repair.specs.declared.left.Left.{Left}
use Rattle.ripup_repair.specs.declared.repaired.Repaired.{Repaired}
use Rattle.ripup_repair.specs.declared.routing.Routing.{Routing}
use Rattle.ripup_repair.specs.RepairHistories.{repair_history, round_history}

-- the one share of the table, with the load of these sets
pub record HasLoadOf (d : Design) (table : TableId) (trees : List (List Piece)) (share : Holding) : Type 0 where
  pub of_table : share.table ≡ table
  pub allot : share.party.allot ≡ whole_allotment
  pub loads : (r : ℕ) → r < entries d.grid → share_at r share.party ≡ load_on d.grid d.nets trees r

-- a round has been
pub record IsRoundDone (d : Design) (workers : ℕ) (budget : Option ℕ) (table : TableId) (old new : Holding)
    (before after : List (List Piece)) : Type 0 where
  pub read : ℕ → List ℕ
  pub read_loads : (start : ℕ) → IsLoadList d.grid (read start)
  pub seen : ℕ → List ℕ
  pub round : IsRepairRound d workers budget before after read seen
  pub routing : IsRouting d.grid d.nets after
  pub share : HasLoadOf d table after new
  pub history : new.party.history ≡ old.party.history ++ round_history d workers before read

-- rounds have been, at most as many as were left, until there was no overflow: where one of them has less than the least before,
-- the first of least overflow is what is left, with its loads, and else the sets and the loads before
pub record AreRoundsDone (d : Design) (left : Left) (old : Routing) (r : Repaired) : Type 0 where
  pub later : List (List (List Piece))
  pub run : IsRepairRun d left.workers left.budget left.rounds (old.trees.items ∷ later)
  pub count : length later ≡ r.rounds
  pub routings : All (IsRouting d.grid d.nets) later
  pub table : r.routing.table ≡ old.table
  pub share : (trees : List (List Piece)) → At (old.trees.items ∷ later) r.rounds trees
      → HasLoadOf d old.table trees r.routing.share
  pub history : r.routing.share.party.history
      ≡ old.share.party.history ++ repair_history d left.workers (old.trees.items ∷ later) run.read r.rounds
  pub within : r.least ≤ left.least
  pub better : r.least < left.least → IsRepairResult d later r.routing.trees.items
      × (routing_overflow d r.routing.trees.items ≡ r.least)
      × (r.routing.loads.items ≡ load_list d.grid d.nets r.routing.trees.items)
  pub none : r.least ≡ left.least → (r.routing.trees.items ≡ old.trees.items) × (r.routing.loads.items ≡ old.loads.items)
      × ((k : ℕ) (trees : List (List Piece)) → At later k trees → left.least ≤ routing_overflow d trees)
