-- A worker, and the turn of a net.
use Rattle.std.specs.Prelude.{ℕ, ◌+◌, ◌≡◌, ◌<◌, Bool, true, List, [], ◌∷◌, ◌++◌, Option, slice_set}
use Rattle.atomic_table.specs.Seated.{TableId}
use Rattle.grid_base.specs.declared.piece.Piece.{Piece}
use Rattle.grid_graph.specs.declared.grid.Grid.{Grid}
use Rattle.grid_graph.specs.declared.net_spec.NetSpec.{NetSpec}
use Rattle.edge_prices.specs.KeptLists as kept
use Rattle.load_core.specs.declared.party.Party.{Party}
use Rattle.load_table.specs.Holdings.{Holding}
use Rattle.sharing_runs.specs.NetSteps.{IsStep}
use Rattle.sharing_runs.specs.Parts.{nets_per_reading}
use Rattle.price_workers.specs.declared.worker.Worker.{Worker}
use Rattle.price_workers.specs.TreeLoads.{GainsTree, without_tree, DiffersInShares, HasRoomForSet}

-- the grid that the worker routes on
abbrev pub worked_grid : Worker → Grid
worked_grid w = kept.grid_of w.kept

-- its share of the table, and the party of that share
abbrev pub held_share : Worker → Holding
held_share w = w.share

abbrev pub party_of : Worker → Party
party_of w = w.share.party

-- the sets that it has so far
abbrev pub trees_of : Worker → List (List Piece)
trees_of w = w.trees.items

-- the loads that it sees: those of its last reading, and its own changes since
abbrev pub seen_loads : Worker → List ℕ
seen_loads w = kept.loads_of w.kept

-- the scale and the budget of its prices
abbrev pub worked_scale : Worker → ℕ
worked_scale w = kept.scale_of w.kept

abbrev pub worked_budget : Worker → Option ℕ
worked_budget w = kept.budget_of w.kept

-- it has read the table, and so many nets had their turn since
abbrev pub is_refreshed : Worker → Bool
is_refreshed w = w.refreshed

abbrev pub nets_since : Worker → ℕ
nets_since w = w.since

-- it routes on this grid, with a share of this table
pub record WorksOn (g : Grid) (table : TableId) (w : Worker) : Type 0 where
  pub on_grid : worked_grid w ≡ g
  pub on_table : (held_share w).table ≡ table

-- grid, table, scale and budget stay
pub record KeepsWork (old new : Worker) : Type 0 where
  pub grid : worked_grid new ≡ worked_grid old
  pub table : (held_share new).table ≡ (held_share old).table
  pub scale : worked_scale new ≡ worked_scale old
  pub budget : worked_budget new ≡ worked_budget old

-- a net may have its turn: the last reading serves one net more, and each word has room for a set
pub record MayRoute (w : Worker) : Type 0 where
  pub refreshed : is_refreshed w ≡ true
  pub few : nets_since w < nets_per_reading
  pub room : HasRoomForSet (party_of w)

-- a turn has been: it counts since the last reading, and of the party the shares alone may have changed
pub record CountsTurn (old new : Worker) : Type 0 where
  pub since : nets_since new ≡ nets_since old + 1
  pub refreshed : is_refreshed new ≡ true
  pub party : DiffersInShares (party_of old) (party_of new)

-- nothing changed that a contract tells of
pub record IsUnchanged (old new : Worker) : Type 0 where
  pub share : held_share new ≡ held_share old
  pub trees : trees_of new ≡ trees_of old
  pub seen : seen_loads new ≡ seen_loads old
  pub since : nets_since new ≡ nets_since old
  pub refreshed : is_refreshed new ≡ is_refreshed old

-- the turn of a net: a step from the seen loads is its set, which comes behind the others, and whose load is added to what is
-- seen and to the share
pub record IsPriced (g : Grid) (n : NetSpec) (old new : Worker) : Type 0 where
  pub tree : List Piece
  pub step : IsStep g n (seen_loads old) (worked_scale old) (worked_budget old) tree
  pub trees : trees_of new ≡ trees_of old ++ tree ∷ []
  pub seen : GainsTree g n.width tree (seen_loads old) (seen_loads new)
  pub share : GainsTree g n.width tree (party_of old).shares (party_of new).shares
  pub counted : CountsTurn old new

-- the turn of a net that had the set `before` at this place: a step from the seen loads without that of `before` stands there,
-- and its load is in place of that of `before`
pub record IsRepriced (g : Grid) (n : NetSpec) (at : ℕ) (before : List Piece) (old new : Worker) : Type 0 where
  pub tree : List Piece
  pub step : IsStep g n (without_tree g n.width before (seen_loads old)) (worked_scale old) (worked_budget old) tree
  pub trees : trees_of new ≡ slice_set (trees_of old) at tree
  pub seen : GainsTree g n.width tree (without_tree g n.width before (seen_loads old)) (seen_loads new)
  pub share : GainsTree g n.width tree (without_tree g n.width before (party_of old).shares) (party_of new).shares
  pub counted : CountsTurn old new
