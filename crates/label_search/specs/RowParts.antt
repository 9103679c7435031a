-- What the numbers of a search are made of.
use Rattle.std.specs.Prelude.{ℕ, ◌≡◌, ◌<◌, ◌≤◌, List, length, get_or}
use Rattle.grid_base.specs.Numbers.{vertices}
use Rattle.label_search.specs.declared.found.Found.{Found}
use Rattle.label_search.specs.declared.heap.Heap.{Heap}
use Rattle.label_search.specs.Held.{IsHeld, heap_room}
use Rattle.label_search.specs.Stamped.{far}

-- a number by index for each found vertex at least, up to `far`, and `far` beyond those found; what waits was found
pub record ArePartsOfRow (found : Found) (numbers : List ℕ) (heap : Heap) : Type 0 where
  pub count : length numbers ≤ vertices found.size
  pub found_count : found.len ≤ length numbers
  pub room : heap_room heap ≡ vertices found.size
  pub limits : (i : ℕ) → get_or numbers i far ≤ far
  pub beyond : (i : ℕ) → found.len ≤ i → get_or numbers i far ≡ far
  pub waiting : (i key : ℕ) → IsHeld heap i key → i < found.len
