-- What one stage of a run hands on to the next is whole for its design.
use Rattle.std.specs.Prelude.{ℕ, ◌≡◌, ◌≤◌, List, length, All}
use Rattle.atomic_table.specs.Seated.{TableId}
use Rattle.grid_graph.specs.declared.design.Design.{Design}
use Rattle.grid_graph.specs.Grids.{entries}
use Rattle.load_core.specs.Parties.{whole_allotment}
use Rattle.load_table.specs.Holdings.{Holding}
use Rattle.tree_set.specs.Loads.{load_list}
use Rattle.tree_set.specs.Routings.{IsRouting}
use Rattle.routing_stages.specs.declared.chosen.Chosen.{Chosen}
use Rattle.routing_stages.specs.declared.shared.Shared.{Shared}
use Rattle.routing_stages.specs.Limits.{max_phases}
use Rattle.routing_stages.specs.Phases.{phases_loads}

-- the one share of the table: it has the whole allotment, and these loads are its shares
pub record IsWholeShare (table : TableId) (loads : List ℕ) (share : Holding) : Type 0 where
  pub of_table : share.table ≡ table
  pub allot : share.party.allot ≡ whole_allotment
  pub shares : share.party.shares ≡ loads

-- one routing per phase, the load of all of them, and one price for each entry
pub record IsWholeShared (d : Design) (s : Shared) : Type 0 where
  pub some : 1 ≤ length s.phases
  pub few : length s.phases ≤ max_phases
  pub routings : All (IsRouting d.grid d.nets) s.phases
  pub loads : s.loads.items ≡ phases_loads d.grid d.nets s.phases
  pub prices : length s.prices.items ≡ entries d.grid
  pub share : IsWholeShare s.table s.loads.items s.share

-- one routing, its load, and one price for each entry
pub record IsWholeChosen (d : Design) (c : Chosen) : Type 0 where
  pub routing : IsRouting d.grid d.nets c.trees
  pub loads : c.loads.items ≡ load_list d.grid d.nets c.trees
  pub prices : length c.prices.items ≡ entries d.grid
  pub share : IsWholeShare c.table c.loads.items c.share
