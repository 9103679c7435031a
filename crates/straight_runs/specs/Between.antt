-- The pieces between two places.
use Rattle.std.specs.Prelude.{ℕ, min, Contains, ◌↔◌, Option, Some, None}
use Rattle.grid_base.specs.declared.piece.Piece.{Piece}
use Rattle.grid_base.specs.declared.place.Place.{Place}
use Rattle.grid_base.specs.declared.size.Size.{Size}
use Rattle.grid_base.specs.Lines.{IsBetween}
use Rattle.grid_base.specs.Numbers.{IsPiece, vertex_number, start_of, place_at, end_place}
use Rattle.straight_runs.specs.declared.run.Run.{Run}
use Rattle.straight_runs.specs.Runs.{IsStraightRun, run_pieces}

-- the number of the vertex at the least column, row and layer of two places
abbrev pub lowest_corner : Size → Place → Place → ℕ
lowest_corner s from to = vertex_number s (min from.col to.col) (min from.row to.row) (min from.layer to.layer)

-- the piece goes from a place between two others to a place between them
pub record RunsBetween (s : Size) (from to : Place) (p : Piece) : Type 0 where
  pub of_grid : IsPiece s p
  pub start : IsBetween from to (place_at s (start_of p))
  pub end : IsBetween from to (end_place s p)

-- the run has exactly the pieces between two places; without a run there is none
abbrev pub IsRunBetween : Size → Place → Place → Option Run → Type 0
IsRunBetween s from to (Some run) = IsStraightRun s run × ((p : Piece) → Contains (run_pieces s run) p ↔ RunsBetween s from to p)
IsRunBetween s from to None = (p : Piece) → ¬ RunsBetween s from to p
