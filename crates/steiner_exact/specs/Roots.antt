-- What a table tells at the root of terminals, which is the last of them.
use Rattle.std.specs.Prelude.{ℕ, ◌≡◌, ◌-◌, ◌<◌, ◌≤◌, List, length, get_or, Option, Some, None}
use Rattle.grid_base.specs.declared.piece.Piece.{Piece}
use Rattle.grid_base.specs.declared.size.Size.{Size}
use Rattle.grid_base.specs.declared.vertex.Vertex.{Vertex}
use Rattle.grid_base.specs.Walks.{InVertices}
use Rattle.label_search.specs.Stamped.{most}
use Rattle.steiner_tables.specs.Masks.{all_but_root}
use Rattle.label_search.specs.Sets.{IsLeastWeight}
use Rattle.steiner_exact.specs.Boxes.{none}
use Rattle.steiner_exact.specs.Reading.{AreReached}

-- the root
abbrev pub root_of : List Vertex → Vertex
root_of terminals = get_or terminals (length terminals - 1) none

-- the table has a number for all terminals but the root, at the root: it is the least weight of a set that joins the
-- terminals, and can be read back
pub record IsLeastAtRoot (s : Size) (pieces : List (Piece × ℕ)) (terminals : List Vertex) (number : ℕ → ℕ → ℕ) (least : ℕ) : Type 0 where
  pub kept : number (all_but_root terminals) (root_of terminals).0 ≡ least
  pub small : least ≤ most
  pub reached : AreReached s pieces terminals (all_but_root terminals) number
  pub lightest : IsLeastWeight s pieces (InVertices terminals) least

-- a search under a limit found that number, or the limit may be raised
abbrev pub IsAttempt : Size → List (Piece × ℕ) → List Vertex → ℕ → (ℕ → ℕ → ℕ) → Option ℕ → Type 0
IsAttempt s pieces terminals limit number (Some least) = IsLeastAtRoot s pieces terminals number least
IsAttempt s pieces terminals limit number None = limit < most
