-- Marks of the entries whose seen load may differ from what was last found there.
use Rattle.std.specs.Prelude.{ℕ, ◌+◌, ◌/◌, ◌≡◌, ◌≤◌, ◌<◌, List, length, slice_index}
use Rattle.grid_base.specs.declared.piece.Piece.{Piece}
use Rattle.grid_graph.specs.declared.grid.Grid.{Grid}
use Rattle.grid_graph.specs.Grids.{entries}
use Rattle.tree_set.specs.Loads.{net_load, tree_load}

-- so many entries share a mark
abbrev pub entries_per_mark : ℕ
entries_per_mark = 64

-- the mark of the run of entries that an entry is in, 0 where there is none
abbrev pub mark_for : List ℕ → ℕ → ℕ
mark_for marks entry = slice_index marks (entry / entries_per_mark)

-- there is a mark for each run of entries, and an entry whose run has mark 0 is seen as it was last found
pub record MarksChanges (g : Grid) (marks last loads : List ℕ) : Type 0 where
  pub long : length marks ≡ entries g / entries_per_mark + 1
  pub same : (e : ℕ) → e < entries g → mark_for marks e ≡ 0 → slice_index loads e ≡ slice_index last e

-- an entry that was seen as it was last found still is
abbrev pub KeepsFound : List ℕ → List ℕ → List ℕ → List ℕ → Type 0
KeepsFound last loads last_then loads_then = (e : ℕ) → slice_index loads e ≡ slice_index last e → slice_index loads_then e ≡ slice_index last_then e

-- the entries from one up to another are seen as they were last found
abbrev pub IsFoundBetween : ℕ → ℕ → List ℕ → List ℕ → Type 0
IsFoundBetween from to last loads = (e : ℕ) → from ≤ e → e < to → slice_index loads e ≡ slice_index last e

-- marks were added: those before stay, and each edge of the set has one
pub record MarksEdges (g : Grid) (tree : List Piece) (old new : List ℕ) : Type 0 where
  pub long : length new ≡ length old
  pub before : (e : ℕ) → mark_for new e ≡ 0 → mark_for old e ≡ 0
  pub unused : (e width : ℕ) → mark_for new e ≡ 0 → net_load g width tree e ≡ 0

-- and the same of each entry that the load of a net by its set is on
pub record MarksTree (g : Grid) (tree : List Piece) (old new : List ℕ) : Type 0 where
  pub long : length new ≡ length old
  pub before : (e : ℕ) → mark_for new e ≡ 0 → mark_for old e ≡ 0
  pub unused : (e width : ℕ) → mark_for new e ≡ 0 → tree_load g width tree e ≡ 0
