-- A set that grows.
use Rattle.std.specs.Prelude.{ℕ, ◌≡◌, Some, slice_get}
use Rattle.grid_base.specs.Walks.{WalkBetween, InPieces}
use Rattle.grid_graph.specs.declared.grid.Grid.{Grid}
use Rattle.grid_graph.specs.declared.ground.Ground.{Ground}
use Rattle.grid_graph.specs.Grids.{size_of}
use Rattle.tree_set.specs.Routings.{KeepsTo}
use Rattle.tree_growth.specs.declared.grown.Grown.{Grown}

-- the vertex has the present mark
abbrev pub IsMarked : Grown → ℕ → Type 0
IsMarked grown v = slice_get grown.marks.items v ≡ Some grown.mark

-- the pieces keep to the ground, and a walk in them leads from the root to each vertex that has the mark
pub record IsGrown (g : Grid) (over : Ground) (grown : Grown) : Type 0 where
  pub keeps : KeepsTo g over grown.pieces.items
  pub walks : (v : ℕ) → IsMarked grown v → WalkBetween (size_of g) (InPieces grown.pieces.items) grown.root.0 v
