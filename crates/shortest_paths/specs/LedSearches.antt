-- A search that its caller leads: numbers, and keys under which vertices wait.
use Rattle.std.specs.Prelude.{ℕ, ◌≡◌, ◌≢◌, ◌<◌, ◌≤◌, ◌⊎◌, List}
use Rattle.grid_base.specs.declared.vertex.Vertex.{Vertex}
use Rattle.shortest_paths.specs.declared.labels.Labels.{Labels}
use Rattle.label_search.specs.Founds.{index_in, AreFoundFirst}
use Rattle.shortest_paths.specs.LabelWords.{labels_size, masks_of, labels_number}
use Rattle.label_search.specs.Rows.{IsWaiting, work_left}

-- the vertex waits under this key
abbrev pub HasKey : Labels → ℕ → ℕ → Type 0
HasKey l v key = IsWaiting l.row v key

-- the vertex waits
abbrev pub IsOpen : Labels → ℕ → Type 0
IsOpen l v = (key : ℕ) × HasKey l v key

-- the vertex waits under a key that none is below
pub record HasLeastKey (l : Labels) (v : ℕ) : Type 0 where
  pub key : ℕ
  pub has : HasKey l v key
  pub least : (u k : ℕ) → HasKey l u k → key ≤ k

-- what falls with each step of a search
abbrev pub work_of : Labels → ℕ
work_of l = work_left l.row

-- how many vertices are found
abbrev pub found_of : Labels → ℕ
found_of l = l.row.found.len

-- the vertex is one of the first so many that were found
abbrev pub IsFirst : Labels → ℕ → ℕ → Type 0
IsFirst l count v = index_in l.row.found v < count

-- so many vertices were found first, and they are those of the list
abbrev pub AreFirst : List Vertex → ℕ → Labels → Type 0
AreFirst vertices count l = AreFoundFirst vertices count l.row.found

-- the same labels, where a search goes on: what was found first stays so
pub record GoOn (old new : Labels) : Type 0 where
  pub size : labels_size new ≡ labels_size old
  pub masks : masks_of new ≡ masks_of old
  pub first : (vertices : List Vertex) (count : ℕ) → AreFirst vertices count old → AreFirst vertices count new

-- a vertex got a lower number, and waits under a key; nothing else changed
pub record Lowers (old new : Labels) (to lower key : ℕ) : Type 0 where
  pub go_on : GoOn old new
  pub number : labels_number new to ≡ lower
  pub others : (u : ℕ) → u ≢ to → labels_number new u ≡ labels_number old u
  pub less : work_of new < work_of old
  pub placed : HasKey new to key
  pub kept : (u k : ℕ) → u ≢ to → HasKey old u k → HasKey new u k
  pub only : (u k : ℕ) → HasKey new u k → ((u ≡ to) × (k ≡ key)) ⊎ ((u ≢ to) × HasKey old u k)

-- a vertex of least key doesn't wait any more; nothing else changed
pub record IsTakenOut (old new : Labels) (at : ℕ) : Type 0 where
  pub go_on : GoOn old new
  pub numbers : (v : ℕ) → labels_number new v ≡ labels_number old v
  pub less : work_of new < work_of old
  pub least : HasLeastKey old at
  pub kept : (u k : ℕ) → u ≢ at → HasKey old u k → HasKey new u k
  pub only : (u k : ℕ) → HasKey new u k → (u ≢ at) × HasKey old u k
