-- Repair runs: rip-up and reroute. Round after round, each net whose set holds an overfull edge gives it up for a new one, by
-- workers that see each other's loads only where they read them. No thread, word or label occurs here: what was read may be
-- any lists of loads.
use Rattle.std.specs.Prelude.{ℕ, ◌≡◌, ◌+◌, ◌<◌, ◌≤◌, Bool, false, ltb, List, [], length, slice_index, slice_index_or, Option}
use Rattle.std.specs.Prelude.{Contains}
use Rattle.std.specs.List.{filter, flat_map, list_any, range_with_len, slice_range}
use Rattle.grid_base.specs.declared.piece.Piece.{Piece}
use Rattle.grid_base.specs.declared.piece.Piece.TheVariants.{Edge, Via}
use Rattle.grid_base.specs.Lists.{At}
use Rattle.grid_graph.specs.declared.design.Design.{Design}
use Rattle.grid_graph.specs.declared.grid.Grid.{Grid}
use Rattle.grid_graph.specs.declared.kind.Kind.{Kind}
use Rattle.grid_graph.specs.declared.kind.Kind.TheVariants.{Open, Choked, Wall}
use Rattle.grid_graph.specs.declared.net_spec.NetSpec.{NetSpec}
use Rattle.grid_graph.specs.Grids.{capacity, entries, kind}
use Rattle.edge_prices.specs.Vectors.{IsLoadList}
use Rattle.tree_set.specs.Loads.{load, load_between, load_on}
use Rattle.tree_set.specs.Measures.{overflow}
use Rattle.sharing_runs.specs.NetSteps.{IsStep}
use Rattle.sharing_runs.specs.Parts.{part_start, stretch_start, IsInPart}

-- the scale of the prices in repair: how strongly loads count
abbrev pub repair_scale : ℕ
repair_scale = 16

-- an edge of this kind is overfull: it is open, and its load is more than its capacity
abbrev pub is_overfull : Kind → ℕ → ℕ → Bool
is_overfull Open load capacity = ltb capacity load
is_overfull Choked load capacity = false
is_overfull Wall load capacity = false

-- the piece is an edge that is overfull at these loads
abbrev pub is_overfull_edge : Grid → (ℕ → ℕ) → Piece → Bool
is_overfull_edge g loads (Edge e) = is_overfull (kind g e.0) (loads e.0) (capacity g e.0)
is_overfull_edge g loads (Via v) = false

-- a set holds an edge that is overfull at these loads
abbrev pub holds_overfull : Grid → (ℕ → ℕ) → List Piece → Bool
holds_overfull g loads pieces = list_any (is_overfull_edge g loads) pieces

-- the positions of the nets that are to be repaired: those whose set holds an edge that is overfull at the load of all sets
abbrev pub nets_to_repair : Design → List (List Piece) → List ℕ
nets_to_repair d trees =
    filter (λ position. holds_overfull d.grid (load d.grid d.nets trees) (slice_index_or trees position []))
    (range_with_len 0 (length trees))

-- the elements at these positions
abbrev pub at_positions : {X : Type 0} → List X → List ℕ → List X
at_positions xs positions = flat_map (λ position. slice_range xs position (position + 1)) positions

-- a turn in a round, in which these nets give up their old sets for new ones: the set that the net of this turn gets, the loads
-- that its worker saw without the old one, and what the worker had read of them; `all` is the load of all sets before the round
pub record IsRepairTurn (g : Grid) (workers : ℕ) (budget : Option ℕ) (all : ℕ → ℕ) (nets : List NetSpec)
    (old new : List (List Piece))
    (worker turn : ℕ) (seen read : List ℕ) : Type 0 where
  -- the set is a step from the seen loads
  pub step : (n : NetSpec) (tree : List Piece) → At nets turn n → At new turn tree → IsStep g n seen repair_scale budget tree
  pub loads : IsLoadList g seen
  -- what is seen is what was read where the stretch began, with the new sets since then and without the old ones, the net's own
  -- among them
  pub since : (r : ℕ) → r < entries g
      → slice_index seen r + load_between g nets old (stretch_start (part_start workers (length nets) worker) turn) (turn + 1) r
      ≡ slice_index read r + load_between g nets new (stretch_start (part_start workers (length nets) worker) turn) turn r
  -- a worker alone sees the load of all sets as they stand at this turn, without the net's own
  pub alone : workers ≡ 1 → (r : ℕ) → r < entries g
      → slice_index seen r + load_between g nets old 0 (turn + 1) r ≡ all r + load_between g nets new 0 turn r
  -- a worker among others sees at least the load of its part's other nets as they stand at this turn: those before the net have
  -- their new sets, and those behind it their old ones
  pub beside : 1 < workers → (r : ℕ) → r < entries g
      → load_between g nets new (part_start workers (length nets) worker) turn r
      + load_between g nets old (turn + 1) (part_start workers (length nets) (worker + 1)) r
      ≤ slice_index seen r

-- a round of repair: from the sets before to those after it, with what was read and what was seen
pub record IsRepairRound (d : Design) (workers : ℕ) (budget : Option ℕ) (before after : List (List Piece))
    (read seen : ℕ → List ℕ) : Type 0 where
  pub long : length after ≡ length before
  -- a net that is not to be repaired keeps its set
  pub others : (position : ℕ) → (Contains (nets_to_repair d before) position → ⊥)
      → slice_index_or after position [] ≡ slice_index_or before position []
  -- those that are have their turns in order of position, divided among the workers
  pub turns : (turn worker : ℕ) → let nets = at_positions d.nets (nets_to_repair d before) in
      IsInPart workers (length nets) worker turn
      → IsRepairTurn d.grid workers budget (load_on d.grid d.nets before) nets (at_positions before (nets_to_repair d before))
      (at_positions after (nets_to_repair d before)) worker turn (seen turn)
      (read (stretch_start (part_start workers (length nets) worker) turn))

-- the overflow of a routing
abbrev pub routing_overflow : Design → List (List Piece) → ℕ
routing_overflow d trees = overflow d.grid (load d.grid d.nets trees)

-- the routings, one after each round and the first before all of them, are a repair run of so many workers with at most so many
-- rounds
pub record IsRepairRun (d : Design) (workers : ℕ) (budget : Option ℕ) (rounds : ℕ)
    (routings : List (List (List Piece))) : Type 0 where
  pub some : 1 ≤ workers
  -- what was read in each round at the stretch that begins with each turn
  pub read : ℕ → ℕ → List ℕ
  pub read_loads : (round start : ℕ) → IsLoadList d.grid (read round start)
  -- what was seen in each round at each turn
  pub seen : ℕ → ℕ → List ℕ
  pub each : (round : ℕ) (before after : List (List Piece)) → At routings round before → At routings (round + 1) after
      → IsRepairRound d workers budget before after (read round) (seen round)
  pub most : length routings ≤ rounds + 1
  -- there is a round more where there is overflow and not all rounds have been, and only there
  pub goes_on : (round : ℕ) (trees : List (List Piece)) → At routings round trees → round + 1 < length routings
      → 0 < routing_overflow d trees
  pub ends : (round : ℕ) (trees : List (List Piece)) → At routings round trees → round + 1 ≡ length routings → round < rounds
      → routing_overflow d trees ≡ 0

-- the result of a repair run: the first routing of least overflow
pub record IsRepairResult (d : Design) (routings : List (List (List Piece))) (trees : List (List Piece)) : Type 0 where
  pub round : ℕ
  pub stands : At routings round trees
  pub least : (k : ℕ) (other : List (List Piece)) → At routings k other → routing_overflow d trees ≤ routing_overflow d other
  pub first : (k : ℕ) (other : List (List Piece)) → At routings k other → k < round
      → routing_overflow d trees < routing_overflow d other
