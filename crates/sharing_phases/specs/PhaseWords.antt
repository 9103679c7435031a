-- Phases that have been.
use Rattle.std.specs.Prelude.{ℕ, ◌≡◌, ◌*◌, ◌≤◌, ◌<◌, List, [], length, replicate, Option, All}
use Rattle.std.specs.List.{range_with_len}
use Rattle.atomic_table.specs.Seated.{TableId}
use Rattle.grid_base.specs.declared.piece.Piece.{Piece}
use Rattle.grid_graph.specs.declared.design.Design.{Design}
use Rattle.grid_graph.specs.Grids.{entries}
use Rattle.load_core.specs.Parties.{share_at, whole_allotment}
use Rattle.load_table.specs.Holdings.{Holding}
use Rattle.tree_set.specs.Routings.{IsRouting}
use Rattle.routing_stages.specs.Phases.{phases_load}
use Rattle.routing_passes.specs.Passes.{max_phase_load}
use Rattle.routing_passes.specs.declared.plan.Plan.{Plan}
use Rattle.sharing_phases.specs.Histories.{IsRecordedRun}

-- no net has a piece in its set yet
abbrev pub empty_sets : ℕ → List (List Piece)
empty_sets nets = replicate nets []

-- the plan of a phase: all nets get sets, at prices of scale 1
pub record IsPhasePlan (nets : ℕ) (plan : Plan) : Type 0 where
  pub positions : plan.positions.items ≡ range_with_len 0 nets
  pub scale : plan.scale ≡ 1

-- so many phases have been: they are a recorded run, and the one share has the load of all their sets
pub record IsRunSoFar (d : Design) (workers : ℕ) (budget : Option ℕ) (table : TableId) (share : Holding)
    (phases : List (List (List Piece))) : Type 0 where
  pub recorded : IsRecordedRun d workers budget phases share.party.history
  pub routings : All (IsRouting d.grid d.nets) phases
  pub of_table : share.table ≡ table
  pub allot : share.party.allot ≡ whole_allotment
  pub loads : (r : ℕ) → r < entries d.grid → share_at r share.party ≡ phases_load d.grid d.nets phases r
  pub few : (r : ℕ) → share_at r share.party ≤ length phases * max_phase_load
