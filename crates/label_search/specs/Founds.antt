-- What was found.
use Rattle.std.specs.Prelude.{ℕ, ◌≡◌, ◌<◌, ◌≤◌, ◌==◌, List, get_or, cond}
use Rattle.grid_base.specs.declared.vertex.Vertex.{Vertex}
use Rattle.grid_base.specs.Numbers.{vertices}
use Rattle.grid_base.specs.Walks.{InVertices}
use Rattle.label_search.specs.declared.found.Found.{Found}
use Rattle.label_search.specs.Finding.{unset}

-- the index of a vertex; of one that isn't found the number of all vertices
abbrev pub index_in : Found → ℕ → ℕ
index_in f v = let slot = get_or f.slots.items v unset in cond (slot.stamp == f.present) slot.index (vertices f.size)

-- more vertices are found, and those that were keep their index
pub record FindsMore (old new : Found) : Type 0 where
  pub size : new.size ≡ old.size
  pub more : old.len ≤ new.len
  pub kept : (v : ℕ) → index_in old v < old.len → index_in new v ≡ index_in old v
  pub others : (v : ℕ) → old.len ≤ index_in old v → old.len ≤ index_in new v

-- so many vertices were found first, and they are those of the list
pub record AreFoundFirst (listed : List Vertex) (count : ℕ) (f : Found) : Type 0 where
  pub room : count ≤ f.len
  pub in_list : (v : ℕ) → index_in f v < count → InVertices listed v
  pub first : (v : ℕ) → InVertices listed v → index_in f v < count
