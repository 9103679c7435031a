-- Numbers in the course of a search.
use Rattle.std.specs.Prelude.{ℕ, ◌≡◌, ◌+◌, ◌<◌, ◌≤◌, ◌⊎◌, List}
use Rattle.grid_base.specs.declared.piece.Piece.{Piece}
use Rattle.grid_base.specs.declared.size.Size.{Size}
use Rattle.grid_base.specs.Numbers.{Connects}
use Rattle.grid_graph.specs.Weighed.{Weighs}
use Rattle.label_search.specs.declared.row.Row.{Row}
use Rattle.label_search.specs.Founds.{FindsMore}
use Rattle.label_search.specs.Paths.{IsPath}
use Rattle.label_search.specs.Rows.{number_in, IsWaiting, Waits, work_left}
use Rattle.label_search.specs.Searches.{IsBehind}
use Rattle.label_search.specs.Stamped.{far}

-- each vertex that waits has a number, and its number and what is still to go as its key; no number is kept where it and
-- what is still to go are above the limit
pub record IsSearch (rest : ℕ → ℕ) (limit : ℕ) (r : Row) : Type 0 where
  pub keys : (v key : ℕ) → IsWaiting r v key → key ≡ number_in r v + rest v
  pub numbered : (v key : ℕ) → IsWaiting r v key → number_in r v < far
  pub within : (v : ℕ) → number_in r v < far → number_in r v + rest v ≤ limit

-- the vertex took this offer, or the offer was above the limit
abbrev pub IsAnswered : (ℕ → ℕ) → (ℕ → ℕ) → ℕ → ℕ → ℕ → Type 0
IsAnswered num rest limit v offered = (num v ≤ offered) ⊎ (limit < offered + rest v)

-- no neighbour of v by an allowed piece has a number that v could lower within the limit
abbrev pub IsRelaxedWithin : Size → List (Piece × ℕ) → (ℕ → ℕ) → ℕ → (ℕ → ℕ) → ℕ → Type 0
IsRelaxedWithin s pieces rest limit num v = (p : Piece) (k u : ℕ) → Weighs pieces p k → Connects s p v u
    → IsAnswered num rest limit u (num v + k)

-- each vertex that doesn't wait is relaxed
abbrev pub IsSettled : Size → List (Piece × ℕ) → (ℕ → ℕ) → ℕ → Row → Type 0
IsSettled s pieces rest limit r = (v : ℕ) → ¬ Waits r v → IsRelaxedWithin s pieces rest limit (number_in r) v

-- a vertex took an offer, or nothing changed
pub record TakesOffer (old new : Row) (to offered : ℕ) : Type 0 where
  pub found : FindsMore old.found new.found
  pub falls : (v : ℕ) → number_in new v ≤ number_in old v
  pub changed : (v : ℕ) → (number_in new v ≡ number_in old v) ⊎ ((v ≡ to) × (number_in new v ≡ offered) × Waits new v)
  pub kept : (v : ℕ) → Waits old v → Waits new v
  pub less : work_left new ≤ work_left old

-- a path leads to v from a vertex, whose number and the path's weight are at most this number
pub record IsFrom (s : Size) (pieces : List (Piece × ℕ)) (num : ℕ → ℕ) (v number : ℕ) : Type 0 where
  pub before : ℕ
  pub path : List Piece
  pub length : ℕ
  pub is_path : IsPath s pieces before v length path
  pub numbered : num before < far
  pub light : num before + length ≤ number

-- numbers that fell along paths
pub record FallsFrom (s : Size) (pieces : List (Piece × ℕ)) (old new : Row) : Type 0 where
  pub found : FindsMore old.found new.found
  pub falls : (v : ℕ) → number_in new v ≤ number_in old v
  pub from : (v : ℕ) → number_in new v < far → IsFrom s pieces (number_in old) v (number_in new v)
  pub behind : (v : ℕ) → number_in new v < far → (number_in new v ≡ number_in old v) ⊎ IsBehind s pieces (number_in new) v

-- numbers that fell along paths, where what fell waits
pub record Advances (s : Size) (pieces : List (Piece × ℕ)) (old new : Row) : Type 0 where
  pub fell : FallsFrom s pieces old new
  pub changed : (v : ℕ) → (number_in new v ≡ number_in old v) ⊎ Waits new v
  pub kept : (v : ℕ) → Waits old v → Waits new v
  pub less : work_left new ≤ work_left old
