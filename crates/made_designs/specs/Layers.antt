-- The edges of a layer along an axis.
use Rattle.std.specs.Prelude.{ℕ, ◌≡◌}
use Rattle.grid_base.specs.declared.axis.Axis.{Axis}
use Rattle.grid_base.specs.Lines.{edge_from}
use Rattle.grid_base.specs.Numbers.{layer_of, IsPiece}
use Rattle.grid_graph.specs.declared.grid.Grid.{Grid}
use Rattle.grid_graph.specs.declared.ground.Ground.{Ground}
use Rattle.grid_graph.specs.Grids.{size_of, Allows}

-- the ground allows each edge of the layer along the axis
abbrev pub AllowsAlong : Grid → Ground → Axis → ℕ → Type 0
AllowsAlong g over axis layer = (v : ℕ) → IsPiece (size_of g) (edge_from axis v) → layer_of (size_of g) v ≡ layer → Allows g over (edge_from axis v)
