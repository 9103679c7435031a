-- Tiles of a list that are marked.
use Rattle.std.specs.Prelude.{ℕ, ◌+◌, ◌≡◌, ◌<◌, ◌≤◌, ◌⊎◌, ◌↔◌, Bool, false, IsTrue, List, Contains, length, slice_index, slice_index_or}
use Rattle.grid_base.specs.declared.place.Place.{Place}
use Rattle.grid_base.specs.declared.size.Size.{Size}
use Rattle.grid_base.specs.Numbers.{vertex_number}

-- these are the numbers from the first on that stand before the end
abbrev pub IsInSpan : ℕ → ℕ → ℕ → Type 0
IsInSpan first end v = (first ≤ v) × (v < end)

-- these are the tiles of a row from a place on, so many
abbrev pub IsInRow : Size → Place → ℕ → ℕ → Type 0
IsInRow s from count v = let first = vertex_number s from.col from.row from.layer in IsInSpan first (first + count) v

-- the list has each tile of a kind
abbrev pub HasEach : List ℕ → (ℕ → Type 0) → Type 0
HasEach tiles Kind = (v : ℕ) → Kind v → Contains tiles v

-- the list has each tile of a kind, and the tiles with a mark are those that had one and those of this kind
pub record AreMarked (tiles : List ℕ) (Kind : ℕ → Type 0) (old new : List Bool) : Type 0 where
  pub long : length new ≡ length old
  pub listed : HasEach tiles Kind
  pub marked : (at : ℕ) → at < length tiles → IsTrue (slice_index_or new at false) ↔ (IsTrue (slice_index_or old at false) ⊎ Kind (slice_index tiles at))
