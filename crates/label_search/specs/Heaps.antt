-- A heap of vertices with keys, in three lists: the keys, the vertices beside them, and for each vertex its place.
use Rattle.std.specs.Prelude.{ℕ, ◌≡◌, ◌≢◌, ◌<◌, ◌≤◌, ◌⊎◌, ◌-◌, ◌/◌, List, length, slice_index}
use Rattle.grid_base.specs.Limits.{max_vertices}

-- two lists of one length, of which the first `len` places may be in use
pub record AreLists (ks vs : List ℕ) (len : ℕ) : Type 0 where
  pub vertices : length vs ≡ length ks
  pub small : length ks ≤ max_vertices
  pub room : len ≤ length ks

-- each of the first `len` vertices has its place noted
pub record IsIndexed (ks vs ps : List ℕ) (len : ℕ) : Type 0 where
  pub lists : AreLists ks vs len
  pub within : (j : ℕ) → j < len → slice_index vs j < length ps
  pub noted : (j : ℕ) → j < len → slice_index ps (slice_index vs j) ≡ j

-- the same but for one place, which waits for the vertex v
pub record HasGap (ks vs ps : List ℕ) (len gap v : ℕ) : Type 0 where
  pub lists : AreLists ks vs len
  pub inside : gap < len
  pub vertex : v < length ps
  pub within : (j : ℕ) → j < len → j ≢ gap → slice_index vs j < length ps
  pub noted : (j : ℕ) → j < len → j ≢ gap → slice_index ps (slice_index vs j) ≡ j
  pub other : (j : ℕ) → j < len → j ≢ gap → slice_index vs j ≢ v

-- the vertex v is in the heap with this key
pub record Holds (ks vs : List ℕ) (len v key : ℕ) : Type 0 where
  pub place : ℕ
  pub inside : place < len
  pub vertex : slice_index vs place ≡ v
  pub valued : slice_index ks place ≡ key

-- the same, and not at the gap
pub record HoldsBeside (ks vs : List ℕ) (len gap v key : ℕ) : Type 0 where
  pub place : ℕ
  pub inside : place < len
  pub elsewhere : place ≢ gap
  pub vertex : slice_index vs place ≡ v
  pub valued : slice_index ks place ≡ key

-- the heap got the vertex v with this key, and holds otherwise what it held beside the gap
pub record FillsGap (ks vs new_ks new_vs : List ℕ) (len gap v key : ℕ) : Type 0 where
  pub placed : Holds new_ks new_vs len v key
  pub kept : (u k : ℕ) → HoldsBeside ks vs len gap u k → Holds new_ks new_vs len u k
  pub only : (u k : ℕ) → Holds new_ks new_vs len u k → ((u ≡ v) × (k ≡ key)) ⊎ HoldsBeside ks vs len gap u k

-- the place above a place
abbrev pub parent : ℕ → ℕ
parent j = (j - 1) / 4

-- no key is below the one above it
abbrev pub AreOrdered : List ℕ → ℕ → Type 0
AreOrdered ks len = (j : ℕ) → 0 < j → j < len → slice_index ks (parent j) ≤ slice_index ks j

-- the same where neither place is the gap
abbrev pub AreOrderedBeside : List ℕ → ℕ → ℕ → Type 0
AreOrderedBeside ks len gap = (j : ℕ) → 0 < j → j < len → j ≢ gap → parent j ≢ gap
    → slice_index ks (parent j) ≤ slice_index ks j

-- the keys below the gap are at least the one above it
abbrev pub AreOrderedAround : List ℕ → ℕ → ℕ → Type 0
AreOrderedAround ks len gap = (j : ℕ) → 0 < gap → 0 < j → j < len → parent j ≡ gap
    → slice_index ks (parent gap) ≤ slice_index ks j

-- the key belongs at the gap or further up
pub record MayRise (ks : List ℕ) (len gap key : ℕ) : Type 0 where
  pub beside : AreOrderedBeside ks len gap
  pub around : AreOrderedAround ks len gap
  pub below : (j : ℕ) → 0 < j → j < len → parent j ≡ gap → key ≤ slice_index ks j

-- the key belongs at the gap or further down
pub record MaySink (ks : List ℕ) (len gap key : ℕ) : Type 0 where
  pub beside : AreOrderedBeside ks len gap
  pub around : AreOrderedAround ks len gap
  pub above : 0 < gap → slice_index ks (parent gap) ≤ key
