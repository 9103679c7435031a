-- The numbers of a search.
use Rattle.std.specs.Prelude.{ℕ, ◌+◌, ◌-◌, ◌*◌, ◌≤◌, length, get_or}
use Rattle.std.specs.List.{sum_by}
use Rattle.grid_base.specs.declared.size.Size.{Size}
use Rattle.grid_base.specs.Numbers.{vertices}
use Rattle.label_search.specs.declared.row.Row.{Row}
use Rattle.label_search.specs.Founds.{index_in}
use Rattle.label_search.specs.Held.{IsHeld}
use Rattle.label_search.specs.Stamped.{far}

-- the size of the grid
abbrev pub size_in : Row → Size
size_in r = r.found.size

-- the number of a vertex
abbrev pub number_in : Row → ℕ → ℕ
number_in r v = get_or r.numbers.items (index_in r.found v) far

-- the vertex waits with this key
abbrev pub IsWaiting : Row → ℕ → ℕ → Type 0
IsWaiting r v key = IsHeld r.heap (index_in r.found v) key

-- the vertex waits
abbrev pub Waits : Row → ℕ → Type 0
Waits r v = (key : ℕ) × IsWaiting r v key

-- the sum of the numbers of all vertices: those beyond the list are `far`
abbrev pub total : Row → ℕ
total r = sum_by (λ x. x) r.numbers.items + far * (vertices r.found.size - length r.numbers.items)

-- what falls with each step of a search
abbrev pub work_left : Row → ℕ
work_left r = 2 * total r + r.heap.len

-- the vertex waits with a key that none is below
pub record IsLeastWaiting (r : Row) (v : ℕ) : Type 0 where
  pub key : ℕ
  pub waits : IsWaiting r v key
  pub least : (u k : ℕ) → IsWaiting r u k → key ≤ k
