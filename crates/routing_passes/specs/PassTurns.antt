-- The turns of some nets in a pass, and how far a worker is with its own.
use Rattle.std.specs.Prelude.{ℕ, ◌≡◌, ◌+◌, ◌-◌, ◌*◌, ◌%◌, ◌≤◌, ◌<◌, true, List, ◌++◌, length, drop, slice_index, slice_range}
use Rattle.grid_base.specs.declared.piece.Piece.{Piece}
use Rattle.grid_base.specs.Lists.{At}
use Rattle.grid_graph.specs.declared.net_spec.NetSpec.{NetSpec}
use Rattle.grid_graph.specs.Grids.{entries}
use Rattle.edge_prices.specs.Vectors.{IsLoadList}
use Rattle.load_core.specs.Parties.{share_at}
use Rattle.load_table.specs.Holdings.{Holding}
use Rattle.price_workers.specs.declared.worker.Worker.{Worker}
use Rattle.price_workers.specs.Workers.{worked_scale, worked_budget, party_of, trees_of, seen_loads, is_refreshed, nets_since}
use Rattle.price_workers.specs.Workers.{WorksOn}
use Rattle.tree_set.specs.Loads.{load_between, load_on, max_tree_load}
use Rattle.sharing_runs.specs.NetSteps.{IsStep}
use Rattle.sharing_runs.specs.Parts.{nets_per_reading, stretch_start, IsInPart}
use Rattle.routing_passes.specs.Histories.{nets_history, parts_history, stretches}
use Rattle.routing_passes.specs.Passes.{Pass, all_load, old_load, old_sets, pass_nets, staying_load, turns_start}

-- the load of new sets for the nets of the pass from a turn on
abbrev pub new_load : Pass → ℕ → List (List Piece) → ℕ → ℕ
new_load p from sets r = load_on p.design.grid (drop from (pass_nets p)) sets r

-- the load of new sets of the nets from one turn up to another
abbrev pub load_in_turns : Pass → List (List Piece) → ℕ → ℕ → ℕ → ℕ
load_in_turns p new from to r = load_between p.design.grid (pass_nets p) new from to r

-- where the stretch of a turn begins
abbrev pub start_of : Pass → ℕ → ℕ → ℕ
start_of p worker turn = stretch_start (turns_start p worker) turn

-- a turn in a pass: the set that the net of this turn gets, the loads that its worker saw without the old one, and what the
-- worker had read of them
pub record IsPassTurn (p : Pass) (new : List (List Piece)) (worker turn : ℕ) (seen read : List ℕ) : Type 0 where
  -- the set is a step from the seen loads
  pub step : (n : NetSpec) (tree : List Piece) → At (pass_nets p) turn n → At new turn tree
      → IsStep p.design.grid n seen p.scale p.budget tree
  pub loads : IsLoadList p.design.grid seen
  -- what is seen is what was read where the stretch began, with the new sets since then and without the old ones, the net's own
  -- among them
  pub since : (r : ℕ) → r < entries p.design.grid
      → slice_index seen r + old_load p (start_of p worker turn) (turn + 1) r
      ≡ slice_index read r + load_in_turns p new (start_of p worker turn) turn r
  -- a worker alone sees the load of all sets as they stand at this turn, without the net's own
  pub alone : p.workers ≡ 1 → (r : ℕ) → r < entries p.design.grid
      → slice_index seen r + old_load p 0 (turn + 1) r ≡ all_load p r + load_in_turns p new 0 turn r
  -- a worker among others sees at least the load of its part's other sets as they stand at this turn
  pub beside : 1 < p.workers → (r : ℕ) → r < entries p.design.grid
      → staying_load p (turns_start p worker) (turns_start p (worker + 1)) r
      + load_in_turns p new (turns_start p worker) turn r + old_load p (turn + 1) (turns_start p (worker + 1)) r
      ≤ slice_index seen r

-- the turns from one up to another have been, and these are the new sets, whatever all other nets get
pub record AreTurns (p : Pass) (from to : ℕ) (sets : List (List Piece)) (read seen : ℕ → List ℕ) : Type 0 where
  pub before : from ≤ to
  pub long : length sets ≡ to - from
  pub read_loads : (start : ℕ) → IsLoadList p.design.grid (read start)
  pub turns : (new : List (List Piece)) (turn worker : ℕ)
      → slice_range new from to ≡ sets
      → from ≤ turn → turn < to
      → IsInPart p.workers (length (pass_nets p)) worker turn
      → IsPassTurn p new worker turn (seen turn) (read (start_of p worker turn))

-- the workers from one up to another had their turns: these are the new sets, the share has their load in place of that of the
-- old ones, and what they read stands behind its history
pub record HadTurns (p : Pass) (first last : ℕ) (old new : Holding) (sets : List (List Piece)) : Type 0 where
  pub read : ℕ → List ℕ
  pub seen : ℕ → List ℕ
  pub turns : AreTurns p (turns_start p first) (turns_start p last) sets read seen
  pub history : new.party.history ≡ old.party.history
      ++ parts_history p.workers (length (pass_nets p)) read first (last - first)
  pub table : new.table ≡ old.table
  pub allot : new.party.allot ≡ old.party.allot
  pub shares : (r : ℕ) → share_at r new.party + old_load p (turns_start p first) (turns_start p last) r
      ≡ share_at r old.party + new_load p (turns_start p first) sets r
  pub few : (r : ℕ) → new_load p (turns_start p first) sets r ≤ length sets * max_tree_load

-- a worker sees what it read where the stretch of a turn began, with the new sets since then in place of the old ones
pub record IsMidway (p : Pass) (from : ℕ) (read : ℕ → List ℕ) (turn : ℕ) (sets : List (List Piece)) (w : Worker) : Type 0 where
  pub refreshed : is_refreshed w ≡ true
  pub since : nets_since w ≡ (turn - from) % nets_per_reading
  pub sees : (r : ℕ) → slice_index (seen_loads w) r + old_load p (stretch_start from turn) turn r
      ≡ slice_index (read (stretch_start from turn)) r
      + new_load p (stretch_start from turn) (drop (stretch_start from turn - from) sets) r

-- a worker that began with this share did its turns up to one, and has read for those up to another
pub record IsWithinPart (p : Pass) (worker : ℕ) (old : Holding) (turn to : ℕ) (w : Worker) : Type 0 where
  pub sets : List (List Piece)
  pub read : ℕ → List ℕ
  pub seen : ℕ → List ℕ
  pub turns : AreTurns p (turns_start p worker) turn sets read seen
  -- its new sets, and then the old ones of the nets whose turn is to come
  pub trees : trees_of w ≡ sets ++ slice_range (old_sets p) turn (turns_start p (worker + 1))
  pub history : (party_of w).history ≡ old.party.history
      ++ nets_history read (turns_start p worker) (to - turns_start p worker)
  pub allot : (party_of w).allot ≡ old.party.allot
  pub shares : (r : ℕ) → share_at r (party_of w) + old_load p (turns_start p worker) turn r
      ≡ share_at r old.party + new_load p (turns_start p worker) sets r
  pub few : (r : ℕ) → new_load p (turns_start p worker) sets r ≤ length sets * max_tree_load
  pub works : WorksOn p.design.grid p.table w
  pub scale : worked_scale w ≡ p.scale
  pub budgeted : worked_budget w ≡ p.budget
  pub midway : turn < turns_start p worker + stretches (to - turns_start p worker) * nets_per_reading
      → IsMidway p (turns_start p worker) read turn sets w
