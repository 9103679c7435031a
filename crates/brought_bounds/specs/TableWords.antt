-- Tables of numbers, and when they hold.
use Rattle.std.specs.Prelude.{ℕ, ◌≡◌, ◌<◌, ◌≤◌, ◌+◌, ◌-◌, List, [], length, slice_index, get_or, All}
use Rattle.grid_base.specs.declared.piece.Piece.{Piece}
use Rattle.grid_base.specs.declared.size.Size.{Size}
use Rattle.grid_base.specs.declared.vertex.Vertex.{Vertex}
use Rattle.grid_base.specs.Numbers.{vertices, Connects}
use Rattle.grid_graph.specs.Weighed.{Weighs}
use Rattle.steiner_tables.specs.Masks.{all_but_root, AreParts}
use Rattle.label_search.specs.Stamped.{far}
use Rattle.steiner_tables.specs.Tables.{IsHoldingTable}

-- the greatest number of a table
abbrev pub max_table_number : ℕ
max_table_number = far

-- the row of a mask: there is one for each mask from 1 on
abbrev pub mask_row : List (List ℕ) → ℕ → List ℕ
mask_row rows mask = get_or rows (mask - 1) []

-- the number of a mask at a vertex
abbrev pub table_number : List (List ℕ) → ℕ → ℕ → ℕ
table_number rows mask v = slice_index (mask_row rows mask) v

-- a row has a number for each vertex
pub record IsRow (count : ℕ) (row : List ℕ) : Type 0 where
  pub each : length row ≡ count
  pub within : All (λ n. n ≤ max_table_number) row

-- there is a number for each vertex in each row
abbrev pub IsFilled : Size → List (List ℕ) → Type 0
IsFilled s rows = All (IsRow (vertices s)) rows

-- a table has a row for each set of terminals without the root
pub record IsTable (s : Size) (terminals : List Vertex) (rows : List (List ℕ)) : Type 0 where
  pub each : length rows ≡ all_but_root terminals
  pub filled : IsFilled s rows

-- a number for each vertex rises along a piece, in either direction, by at most the piece's weight
abbrev pub RisesAlong : Size → List (Piece × ℕ) → (ℕ → ℕ) → Piece → Type 0
RisesAlong s pieces D p = (k a b : ℕ) → Weighs pieces p k → Connects s p a b → D b ≤ D a + k

-- the number of two masks together is at most the sum of theirs, where they are the parts of a mask up to the last one
abbrev pub SplitHolds : ℕ → ℕ → (ℕ → ℕ → ℕ) → ℕ → ℕ → Type 0
SplitHolds count last number one other =
    (mask v : ℕ) → AreParts one other mask → mask ≤ last → v < count → number mask v ≤ number one v + number other v

-- rows are a table that holds
pub record IsTableThatHolds (s : Size) (pieces : List (Piece × ℕ)) (terminals : List Vertex)
    (rows : List (List ℕ)) : Type 0 where
  pub table : IsTable s terminals rows
  pub holds : IsHoldingTable s pieces terminals (all_but_root terminals) (table_number rows)
