-- How many edges of a kind stand before each vertex on its lines.
use Rattle.std.specs.Prelude.{ℕ, ◌+◌, ◌<◌, ◌≤◌, ◌≡◌, Bool, true, false, cond, List, length, slice_index}
use Rattle.std.specs.List.{count_by}
use Rattle.grid_base.specs.declared.piece.Piece.{Piece}
use Rattle.grid_base.specs.declared.piece.Piece.TheVariants.{Edge, Via}
use Rattle.grid_base.specs.Numbers.{vertices}
use Rattle.grid_graph.specs.declared.grid.Grid.{Grid}
use Rattle.grid_graph.specs.declared.kind.Kind.{Kind}
use Rattle.grid_graph.specs.declared.kind.Kind.TheVariants.{Open, Choked, Wall}
use Rattle.grid_graph.specs.Grids.{kind, size_of}
use Rattle.straight_runs.specs.declared.direction.Direction.{Direction}
use Rattle.straight_runs.specs.Lines.{rise, piece_towards}

-- the two kinds are one
abbrev pub is_same_kind : Kind → Kind → Bool
is_same_kind Open Open = true
is_same_kind Choked Choked = true
is_same_kind Wall Wall = true
is_same_kind a b = false

-- the piece is an edge of this kind
abbrev pub is_of_kind : Grid → Kind → Piece → Bool
is_of_kind g k (Edge e) = is_same_kind (kind g e.0) k
is_of_kind g k (Via v) = false

-- how many of the pieces are edges of this kind
abbrev pub kind_count : Grid → Kind → List Piece → ℕ
kind_count g k pieces = count_by (is_of_kind g k) pieces

-- from each vertex to the next one in a direction, the count rises by one if the edge between them is of this kind
pub record AreCounts (g : Grid) (k : Kind) (direction : Direction) (counts : List ℕ) : Type 0 where
  pub long : length counts ≡ vertices (size_of g)
  pub small : (v : ℕ) → slice_index counts v ≤ v
  pub next : (v : ℕ) → v + rise direction (size_of g) < vertices (size_of g)
      → slice_index counts (v + rise direction (size_of g)) ≡ slice_index counts v + cond (is_of_kind g k (piece_towards direction v)) 1 0
