-- Up to five terminals that are spread far apart: each next one is the farthest from those before, after Gonzalez,
-- "Clustering to minimize the maximum intercluster distance" (1985).
use Rattle.std.specs.Prelude.{ℕ, ◌≡◌, ◌+◌, ◌<◌, ◌≤◌, List, fold, length, take, min, Option, None, slice_get, get_or}
use Rattle.grid_base.specs.declared.size.Size.{Size}
use Rattle.grid_base.specs.declared.vertex.Vertex.{Vertex}
use Rattle.grid_base.specs.Lists.{At}
use Rattle.grid_base.specs.Numbers.{cols, rows, layers, place_at, distance}

-- how many are chosen at most
abbrev pub most_chosen : ℕ
most_chosen = 5

-- the least grid distance of a vertex to those chosen; above all distances where none is chosen yet
abbrev pub nearest : Size → List Vertex → ℕ → ℕ
nearest s chosen v =
    fold (λ least c. min least (distance (place_at s v) (place_at s c.0))) (cols s + rows s + layers s) chosen

-- the terminal is the next one: its least distance to those chosen is greatest, and at a tie it is the earliest
pub record IsNext (s : Size) (terminals chosen : List Vertex) (t : Vertex) : Type 0 where
  pub place : ℕ
  pub stands : At terminals place t
  pub greatest : (i : ℕ) (u : Vertex) → At terminals i u → nearest s chosen u.0 ≤ nearest s chosen t.0
  pub earliest : (i : ℕ) (u : Vertex) → i < place → At terminals i u → nearest s chosen u.0 < nearest s chosen t.0

-- the spread of the terminals: five of them, or all where they are fewer, each the next after those before
pub record IsSpread (s : Size) (terminals chosen : List Vertex) : Type 0 where
  pub count : length chosen ≡ min most_chosen (length terminals)
  pub each : (i : ℕ) (t : Vertex) → At chosen i t → IsNext s terminals (take i chosen) t

-- the same as five answers, of which those past the number of terminals are none
pub record IsSpreadFive (s : Size) (terminals : List Vertex) (answers : List (Option Vertex)) : Type 0 where
  pub chosen : List Vertex
  pub spread : IsSpread s terminals chosen
  pub answered : (i : ℕ) → i < most_chosen → get_or answers i None ≡ slice_get chosen i
