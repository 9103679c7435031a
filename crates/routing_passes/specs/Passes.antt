-- A pass that is under way: some nets get new sets, one after another, by workers side by side.
use Rattle.std.specs.Prelude.{ℕ, ◌≡◌, ◌+◌, ◌-◌, ◌*◌, ◌^◌, ◌≤◌, ◌<◌, true, List, [], length, Option, All}
use Rattle.std.specs.List.{sum_by}
use Rattle.atomic_table.specs.Seated.{TableId}
use Rattle.grid_base.specs.declared.piece.Piece.{Piece}
use Rattle.grid_graph.specs.declared.design.Design.{Design}
use Rattle.grid_graph.specs.declared.ground.Ground.{Ground}
use Rattle.grid_graph.specs.declared.net_spec.NetSpec.{NetSpec}
use Rattle.grid_graph.specs.Grounds.{AreGrounds}
use Rattle.grid_graph.specs.Grids.{entries, size_of}
use Rattle.grid_graph.specs.Limits.{max_nets}
use Rattle.edge_prices.specs.Limits.{IsBudget, IsScale}
use Rattle.load_core.specs.Parties.{share_at, whole_allotment}
use Rattle.load_table.specs.Holdings.{Holding, held}
use Rattle.tree_set.specs.Loads.{load_between, load_on}
use Rattle.tree_set.specs.Routings.{ArePieces}
use Rattle.routing_stages.specs.Limits.{max_workers, max_phases}
use Rattle.routing_stages.specs.Phases.{phases_load}
use Rattle.price_workers.specs.Readings.{after_reading, AreCloseTo}
use Rattle.price_workers.specs.declared.worker.Worker.{Worker}
use Rattle.price_workers.specs.Workers.{held_share, party_of, trees_of, seen_loads, is_refreshed, nets_since}
use Rattle.sharing_runs.specs.Parts.{part_start}
use Rattle.sharing_runs.specs.RepairRuns.{at_positions}
use Rattle.routing_passes.specs.declared.pass_input.PassInput.{PassInput}
use Rattle.routing_passes.specs.declared.plan.Plan.{Plan}

-- a pass: the design and each net's ground, the table of the loads, the sets of the nets that stay, list after list, the sets
-- that the nets have now, the positions of the nets that get new ones in their place, the scale of the prices, how many workers
-- there are, and the wirelength that is to be kept, or none
pub record Pass : Type 0 where
  pub design : Design
  pub grounds : List Ground
  pub table : TableId
  pub earlier : List (List (List Piece))
  pub before : List (List Piece)
  pub positions : List ℕ
  pub scale : ℕ
  pub workers : ℕ
  pub budget : Option ℕ

-- the pass that a plan makes
abbrev pub pass_of : Design → List Ground → TableId → List (List (List Piece)) → List (List Piece) → Plan → Pass
pass_of design grounds table earlier before plan = record {
  design = design;
  grounds = grounds;
  table = table;
  earlier = earlier;
  before = before;
  positions = plan.positions.items;
  scale = plan.scale;
  workers = plan.workers;
  budget = plan.budget;
}

-- the pass of what its calls are lent
abbrev pub pass_in : PassInput → Pass
pass_in i = pass_of i.design.now i.grounds.now i.table.now i.earlier.now i.before.now i.plan.now

-- the nets that get new sets, and the sets that they had
abbrev pub pass_nets : Pass → List NetSpec
pass_nets p = at_positions p.design.nets p.positions

abbrev pub old_sets : Pass → List (List Piece)
old_sets p = at_positions p.before p.positions

-- where the turns of a worker begin
abbrev pub turns_start : Pass → ℕ → ℕ
turns_start p worker = part_start p.workers (length (pass_nets p)) worker

-- the load of the old sets of the nets from one turn up to another
abbrev pub old_load : Pass → ℕ → ℕ → ℕ → ℕ
old_load p from to r = load_between p.design.grid (pass_nets p) (old_sets p) from to r

-- the load that the nets at these positions from one place up to another have by several lists of sets
abbrev pub positions_load : Design → List (List (List Piece)) → List ℕ → ℕ → ℕ → ℕ → ℕ
positions_load d lists positions from to r =
    sum_by (λ trees. load_between d.grid (at_positions d.nets positions) (at_positions trees positions) from to r) lists

-- the load of the sets of these nets that stay
abbrev pub staying_load : Pass → ℕ → ℕ → ℕ → ℕ
staying_load p from to r = positions_load p.design p.earlier p.positions from to r

-- the load of all sets of the nets from one turn up to another before the pass
abbrev pub turns_load : Pass → ℕ → ℕ → ℕ → ℕ
turns_load p from to r = staying_load p from to r + old_load p from to r

-- the load of all sets of all nets before the pass
abbrev pub all_load : Pass → ℕ → ℕ
all_load p r = phases_load p.design.grid p.design.nets p.earlier r + load_on p.design.grid p.design.nets p.before r

-- each share of a table that workers have gets at least so much
abbrev pub least_allotment : ℕ
least_allotment = 2 ^ 58

-- no share has more of a word before a pass
abbrev pub max_earlier_load : ℕ
max_earlier_load = 2 ^ 51

-- the sets of one list put no more than this on a word
abbrev pub max_phase_load : ℕ
max_phase_load = 2 ^ 47

-- a set of pieces for each net
pub record AreSets (d : Design) (trees : List (List Piece)) : Type 0 where
  pub long : length trees ≡ length d.nets
  pub pieces : All (ArePieces (size_of d.grid)) trees

-- a ground for each net, a table with a word for each entry of the loads, and sets for all nets
pub record IsPass (p : Pass) : Type 0 where
  pub grounds : AreGrounds p.design.grid p.design.nets p.grounds
  pub words : p.table.words ≡ entries p.design.grid
  pub some : 1 ≤ p.workers
  pub workers : p.workers ≤ max_workers
  pub scale : IsScale p.scale
  pub budget : IsBudget p.budget
  pub earlier : All (AreSets p.design) p.earlier
  pub lists : length p.earlier < max_phases
  pub before : AreSets p.design p.before
  pub nets : All (λ position. position < length p.design.nets) p.positions
  pub few : length p.positions ≤ max_nets

-- a share with which the workers from one up to another can do their turns: it has all sets of their nets, alone the load of
-- all sets, and an allotment for each worker
pub record ServesTurns (p : Pass) (first last : ℕ) (share : Holding) : Type 0 where
  pub table : share.table ≡ p.table
  pub allot : (last - first) * least_allotment ≤ share.party.allot
  pub whole : p.workers ≡ 1 → share.party.allot ≡ whole_allotment
  pub alone : p.workers ≡ 1 → (r : ℕ) → r < entries p.design.grid → share_at r share.party ≡ all_load p r
  pub loads : (r : ℕ) → r < entries p.design.grid
      → turns_load p (turns_start p first) (turns_start p last) r ≤ share_at r share.party
  pub few : (r : ℕ) → share_at r share.party ≤ max_earlier_load

-- the workers from one up to another may have their turns in a pass, with this share
abbrev pub MayTakeTurns : Pass → ℕ → ℕ → Holding → Type 0
MayTakeTurns p first last share = IsPass p × ((first < last) × (last ≤ p.workers)) × ServesTurns p first last share

-- a share was split in two: each word is divided, the whole history stays with the first
pub record AreSplit (old kept other : Holding) : Type 0 where
  pub kept_table : kept.table ≡ old.table
  pub other_table : other.table ≡ old.table
  pub allot : kept.party.allot + other.party.allot ≡ old.party.allot
  pub shares : (r : ℕ) → share_at r kept.party + share_at r other.party ≡ share_at r old.party
  pub kept_history : kept.party.history ≡ old.party.history
  pub other_history : other.party.history ≡ []

-- a share was split for two halves of the workers from one up to another, and serves either
pub record AreHalves (p : Pass) (first middle last : ℕ) (old left right : Holding) : Type 0 where
  pub kept : ServesTurns p first middle left
  pub given : ServesTurns p middle last right
  pub split : AreSplit old left right

-- the worker has read the table
pub record HasRead (table : TableId) (old new : Worker) : Type 0 where
  pub reading : held_share new ≡ held table (after_reading (party_of old) (seen_loads new))
  pub close : AreCloseTo (party_of new) (seen_loads new)
  pub refreshed : is_refreshed new ≡ true
  pub since : nets_since new ≡ 0
  pub trees : trees_of new ≡ trees_of old
