-- The lowest layers on which wires can run.
use Rattle.std.specs.Prelude.{ℕ, ◌≡◌, ◌<◌, ◌≤◌, ◌⊎◌}
use Rattle.grid_base.specs.declared.axis.Axis.{Axis}
use Rattle.grid_base.specs.Numbers.{edge_axis, edge_start, layer_of, layers}
use Rattle.grid_graph.specs.declared.grid.Grid.{Grid}
use Rattle.grid_graph.specs.Grids.{capacity, edge_numbers, size_of}

-- the edge number is of an open edge along the axis
abbrev pub IsOpenAlong : Grid → Axis → ℕ → Type 0
IsOpenAlong g axis e = (0 < capacity g e) × (edge_axis e ≡ axis)

-- of so many edge numbers no open edge along the axis is on a lower layer, and one is on this; or there is no such edge, and
-- this is how many layers there are
pub record IsLowestOf (g : Grid) (axis : Axis) (numbers layer : ℕ) : Type 0 where
  pub lowest : (e : ℕ) → e < numbers → IsOpenAlong g axis e → layer ≤ layer_of (size_of g) (edge_start e)
  pub stands : (layer ≡ layers (size_of g)) ⊎ ((e : ℕ) × (e < numbers) × IsOpenAlong g axis e × (layer_of (size_of g) (edge_start e) ≡ layer))

-- the lowest layer with an open edge along the axis, or the number of layers
abbrev pub IsLowestLayer : Grid → Axis → ℕ → Type 0
IsLowestLayer g axis layer = IsLowestOf g axis (edge_numbers g) layer
