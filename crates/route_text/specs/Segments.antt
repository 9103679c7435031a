-- The segments of a set of pieces: straight lines that cover its edges and vias.
use Rattle.std.specs.Prelude.{ℕ, List, ◌++◌, filter}
use Rattle.grid_base.specs.declared.axis.Axis.TheVariants.{X, Y}
use Rattle.grid_base.specs.declared.piece.Piece.{Piece}
use Rattle.grid_base.specs.declared.size.Size.{Size}
use Rattle.grid_base.specs.Lines.{is_along}
use Rattle.tree_set.specs.Runs.{runs, vias}

-- the segments of a set, each by its two ends: the runs along x, the runs along y, and the vias
abbrev pub segments : Size → List Piece → List (ℕ × ℕ)
segments s pieces = runs s (filter (is_along X) pieces) ++ runs s (filter (is_along Y) pieces) ++ vias s pieces
