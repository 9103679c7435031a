-- Sharing runs: every net is routed once in each phase, by workers that see each other's loads only where they read them.
-- No thread, word or label occurs here: what was read may be any lists of loads.
use Rattle.std.specs.Prelude.{ℕ, ◌≡◌, ◌+◌, ◌<◌, ◌≤◌, List, length, take, slice_index, Option, All}
use Rattle.std.specs.List.{sum_by}
use Rattle.grid_base.specs.declared.piece.Piece.{Piece}
use Rattle.grid_graph.specs.declared.design.Design.{Design}
use Rattle.grid_graph.specs.declared.net_spec.NetSpec.{NetSpec}
use Rattle.grid_base.specs.Lists.{At}
use Rattle.grid_graph.specs.Grids.{entries}
use Rattle.edge_prices.specs.Vectors.{IsLoadList}
use Rattle.tree_set.specs.Loads.{load_between}
use Rattle.sharing_runs.specs.Parts.{part_start, stretch_start, IsInPart}
use Rattle.sharing_runs.specs.NetSteps.{IsStep}

-- the load that a worker has put on an entry when the turn of a net comes: by the sets of its part of the nets, those of
-- all earlier phases and those of the nets of this phase that come before the net
abbrev pub own_load : Design → ℕ → ℕ → List (List (List Piece)) → List (List Piece) → ℕ → ℕ → ℕ
own_load d from to earlier trees position r =
    sum_by (λ before. load_between d.grid d.nets before from to r) earlier + load_between d.grid d.nets trees from position r

-- the turn of a net in a phase: the set that it gets, the loads that its worker saw, and what the worker had read of them
pub record IsTurn (d : Design) (workers : ℕ) (budget : Option ℕ) (earlier : List (List (List Piece)))
    (trees : List (List Piece))
    (worker position : ℕ) (seen read : List ℕ) : Type 0 where
  -- the set is a step from the seen loads
  pub step : (n : NetSpec) (tree : List Piece) → At d.nets position n → At trees position tree
      → IsStep d.grid n seen 1 budget tree
  pub loads : IsLoadList d.grid seen
  -- what is seen is what was read where the stretch began, and the load of the worker's sets since then
  pub since : (r : ℕ) → r < entries d.grid → slice_index seen r
      ≡ slice_index read r + load_between d.grid d.nets trees
      (stretch_start (part_start workers (length d.nets) worker) position) position r
  -- a worker alone sees the load of all sets so far
  pub alone : workers ≡ 1 → (r : ℕ) → r < entries d.grid → slice_index seen r
      ≡ own_load d (part_start workers (length d.nets) worker)
      (part_start workers (length d.nets) (worker + 1)) earlier trees position r
  -- a worker among others sees at least the load of its own sets so far
  pub beside : 1 < workers → (r : ℕ) → r < entries d.grid
      → own_load d (part_start workers (length d.nets) worker)
      (part_start workers (length d.nets) (worker + 1)) earlier trees position r
      ≤ slice_index seen r

-- the sets of all phases, one per net in each, are a sharing run of so many workers
pub record IsSharingRun (d : Design) (workers : ℕ) (budget : Option ℕ) (phases : List (List (List Piece))) : Type 0 where
  pub some : 1 ≤ workers
  pub each : All (λ trees. length trees ≡ length d.nets) phases
  -- what was read in each phase at the stretch that begins at each position
  pub read : ℕ → ℕ → List ℕ
  pub read_loads : (phase start : ℕ) → IsLoadList d.grid (read phase start)
  -- what was seen in each phase for the net at each position
  pub seen : ℕ → ℕ → List ℕ
  pub turns : (phase position worker : ℕ) (trees : List (List Piece))
      → At phases phase trees
      → IsInPart workers (length d.nets) worker position
      → IsTurn d workers budget (take phase phases) trees worker position (seen phase position)
      (read phase (stretch_start (part_start workers (length d.nets) worker) position))
