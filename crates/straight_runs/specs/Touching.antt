-- Vertices of runs, and runs in groups that walks join.
use Rattle.std.specs.Prelude.{ℕ, ◌+◌, ◌*◌, ◌<◌, ◌≤◌, ◌≡◌, List, length, slice_index, slice_index_or}
use Rattle.grid_base.specs.declared.piece.Piece.{Piece}
use Rattle.grid_base.specs.declared.size.Size.{Size}
use Rattle.grid_base.specs.Walks.{WalkBetween, InPieces}
use Rattle.straight_runs.specs.declared.direction.Direction.TheVariants.{East}
use Rattle.groups.specs.declared.union_find.Groups.{Groups}
use Rattle.straight_runs.specs.declared.run.Run.{Run}
use Rattle.straight_runs.specs.Lines.{rise}
use Rattle.straight_runs.specs.Runs.{pieces_of}

-- a piece of the run goes from the vertex or ends there
abbrev pub HasVertex : Size → Run → ℕ → Type 0
HasVertex s run v = (i : ℕ) × (i ≤ run.count) × (v ≡ run.first.0 + i * rise run.direction s)

-- stands for a run where there is none
abbrev pub no_run : Run
no_run = record { direction = East; first = record { 0 = 0 }; count = 0 }

-- the run of this number has the vertex
abbrev pub IsRunWith : Size → List Run → ℕ → ℕ → Type 0
IsRunWith s runs v i = (i < length runs) × HasVertex s (slice_index_or runs i no_run) v

-- the first vertex of the run of this number
abbrev pub first_of : List Run → ℕ → ℕ
first_of runs i = (slice_index_or runs i no_run).first.0

-- walks in the pieces lead from each vertex of a list to that of its parent
abbrev pub AreChained : Size → List Piece → (ℕ → ℕ) → Groups → Type 0
AreChained s pieces at groups =
    (i : ℕ) → i < length groups.parents.items → WalkBetween s (InPieces pieces) (at i) (at (slice_index groups.parents.items i))

-- walks in the runs' pieces lead from the begin of each run to that of its parent
pub record AreGroups (s : Size) (runs : List Run) (groups : Groups) : Type 0 where
  pub long : length groups.parents.items ≡ length runs
  pub chained : AreChained s (pieces_of s runs) (first_of runs) groups
