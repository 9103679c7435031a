-- One run of the router: phases of sharing, a pick for each net, rounds of repair, and the prices of the loads of all phases.
use Rattle.std.specs.Prelude.{ℕ, ◌≡◌, ◌+◌, List, length}
use Rattle.grid_base.specs.declared.piece.Piece.{Piece}
use Rattle.grid_base.specs.Lists.{At}
use Rattle.grid_base.specs.Numbers.{vertices}
use Rattle.grid_graph.specs.declared.design.Design.{Design}
use Rattle.grid_graph.specs.Grids.{size_of}
use Rattle.edge_prices.specs.Vectors.{price_vector}
use Rattle.routing_stages.specs.declared.settings.Settings.{Settings}
use Rattle.routing_stages.specs.Phases.{phases_loads}
use Rattle.routing_stages.specs.Settings.{workers_in_use}
use Rattle.rounding_pick.specs.ChosenRoutings.{chosen_routing}
use Rattle.sharing_runs.specs.RepairRuns.{IsRepairRun, IsRepairResult, routing_overflow}
use Rattle.sharing_runs.specs.SharingRuns.{IsSharingRun}

-- so many workers share the nets of the design
abbrev pub workers_on : Design → Settings → ℕ
workers_on d s = workers_in_use s.workers (vertices (size_of d.grid))

-- the sets, one per net, and the prices come of one run with these settings, in which the picked sets had this overflow and so
-- many rounds of repair were made
pub record IsRouterRun (d : Design) (s : Settings) (trees : List (List Piece)) (prices : List ℕ) (rounded rounds : ℕ) : Type 0 where
  -- every net got a set in each phase, by workers that share loads
  pub phases : List (List (List Piece))
  pub count : length phases ≡ s.phases
  pub sharing : IsSharingRun d (workers_on d s) s.budget phases
  -- and kept the one of the phase that was picked for it
  pub picked : List (List Piece)
  pub picks : picked ≡ chosen_routing s.seed phases (length d.nets)
  -- the picked sets were repaired round after round, while there was overflow, in at most as many rounds as the settings say
  pub routings : List (List (List Piece))
  pub begins : At routings 0 picked
  pub repairs : IsRepairRun d (workers_on d s) s.budget s.rounds routings
  -- and of the routings before and after these rounds, the first of least overflow is the result
  pub result : IsRepairResult d routings trees
  pub rounded_is : rounded ≡ routing_overflow d picked
  pub rounds_are : length routings ≡ rounds + 1
  -- the prices are those of the load of all phases
  pub prices_are : prices ≡ price_vector d.grid (phases_loads d.grid d.nets phases) 1 s.budget
