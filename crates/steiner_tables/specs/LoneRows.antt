-- The row of a terminal alone: distances from it, as far as a search that a family led has found them.
use Rattle.std.specs.Prelude.{ℕ, ◌≡◌, ◌+◌, ◌<◌, ◌≤◌, List}
use Rattle.grid_base.specs.declared.piece.Piece.{Piece}
use Rattle.grid_base.specs.declared.size.Size.{Size}
use Rattle.grid_base.specs.declared.vertex.Vertex.{Vertex}
use Rattle.grid_base.specs.Lists.{At}
use Rattle.label_search.specs.Searches.{known}
use Rattle.label_search.specs.Sets.{RisesSlowly}
use Rattle.label_search.specs.Stamped.{far}
use Rattle.steiner_tables.specs.Masks.{single}
use Rattle.steiner_tables.specs.Tables.{HasTree, rest_of}

-- what the row tells of the distance from the terminal at a place: a vertex's number, or the least that is above the limit
-- together with the bound for the other terminals, where that is smaller
abbrev pub lone : List Vertex → (ℕ → ℕ → ℕ) → ℕ → (ℕ → ℕ → ℕ) → ℕ → ℕ → ℕ
lone terminals low limit number place v =
    known (number (single place)) (rest_of terminals low (single place)) (limit + 1) v

-- no number is kept that is above the limit together with the bound for the other terminals; and what the row tells is 0 at
-- the terminal, and rises along an allowed piece by at most its weight
pub record IsLeadingRow (s : Size) (pieces : List (Piece × ℕ)) (terminals : List Vertex) (low : ℕ → ℕ → ℕ) (limit : ℕ)
    (number : ℕ → ℕ → ℕ) (place : ℕ) : Type 0 where
  pub within : (v : ℕ) → number (single place) v < far
      → number (single place) v + rest_of terminals low (single place) v ≤ limit
  pub own : (v : Vertex) → At terminals place v → lone terminals low limit number place v.0 ≡ 0
  pub slow : RisesSlowly s pieces (lone terminals low limit number place)

-- a row that may lead, and for each of whose numbers some set of at most that weight joins the terminal and the vertex
pub record IsLoneRow (s : Size) (pieces : List (Piece × ℕ)) (terminals : List Vertex) (low : ℕ → ℕ → ℕ) (limit : ℕ)
    (number : ℕ → ℕ → ℕ) (place : ℕ) : Type 0 where
  pub trees : (v : ℕ) → number (single place) v < far → HasTree s pieces terminals (single place) v (number (single place) v)
  pub leads : IsLeadingRow s pieces terminals low limit number place
