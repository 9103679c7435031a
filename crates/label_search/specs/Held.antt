-- What a heap holds.
use Rattle.std.specs.Prelude.{ℕ, ◌≤◌}
use Rattle.label_search.specs.declared.heap.Heap.{Heap}
use Rattle.label_search.specs.Heaps.{Holds}

-- the vertex v is in the heap with this key
abbrev pub IsHeld : Heap → ℕ → ℕ → Type 0
IsHeld h v key = Holds h.keys.items h.vertices.items h.len v key

-- the heap has room for the vertices below this number
abbrev pub heap_room : Heap → ℕ
heap_room h = h.room

-- the vertex v is in the heap with a key that none is below
pub record IsLeastHeld (h : Heap) (v : ℕ) : Type 0 where
  pub key : ℕ
  pub held : IsHeld h v key
  pub least : (u k : ℕ) → IsHeld h u k → key ≤ k
