-- The nearest goal, as far as a limit.
use Rattle.std.specs.Prelude.{ℕ, ◌+◌, List, Option, Some, None}
use Rattle.grid_base.specs.declared.piece.Piece.{Piece}
use Rattle.grid_base.specs.declared.size.Size.{Size}
use Rattle.grid_base.specs.declared.vertex.Vertex.{Vertex}
use Rattle.shortest_paths.specs.Nearest.{IsGoal, NoneIsNearer, IsLeastToGoal}

-- the distance of a source to the nearest goal where it is within a limit; none where every goal is further away
abbrev pub IsNearestWithin : Size → List (Piece × ℕ) → List Vertex → ℕ → ℕ → Option ℕ → Type 0
IsNearestWithin s pieces goals source limit (Some d) = IsLeastToGoal s pieces goals source d
IsNearestWithin s pieces goals source limit None = NoneIsNearer s pieces source (IsGoal goals source) (limit + 1)
