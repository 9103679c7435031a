-- Capacities by layer and direction, before any adjustment, and demands.
use Rattle.std.specs.Prelude.{ℕ, ◌+◌, ◌*◌, ◌≡◌, ◌≤◌, max, List, length, Bool, false, ◌&&◌, cond, ltb, slice_index}
use Rattle.grid_base.specs.declared.axis.Axis.{Axis}
use Rattle.grid_base.specs.declared.axis.Axis.TheVariants.{X, Y}
use Rattle.grid_base.specs.declared.size.Size.{Size}
use Rattle.grid_base.specs.Numbers.{cols, rows, vertices, col_of, row_of, layer_of, edge_start, edge_axis}
use Rattle.grid_graph.specs.Layouts.{Layout}
use Rattle.grid_graph.specs.Limits.{max_capacity}

-- whether a next vertex along the axis is in the grid
abbrev pub has_next : Size → Axis → ℕ → Bool
has_next s X v = ltb (col_of s v + 1) (cols s)
has_next s Y v = ltb (row_of s v + 1) (rows s)

-- whether an edge number belongs to an edge: it goes from a vertex to a vertex
abbrev pub is_edge : Size → ℕ → Bool
is_edge s e = ltb (edge_start e) (vertices s) && has_next s (edge_axis e) (edge_start e)

-- the layers' capacities along an axis
abbrev pub capacities_along : Layout → Axis → List ℕ
capacities_along y X = y.horizontal
capacities_along y Y = y.vertical

-- the capacity of an edge before any adjustment: its layer's along its axis, and 0 where there is no edge
abbrev pub layer_capacity : Layout → ℕ → ℕ
layer_capacity y e =
    cond (is_edge y.size e) (slice_index (capacities_along y (edge_axis e)) (layer_of y.size (edge_start e))) 0

-- one capacity per edge number, and none where there is no edge
pub record IsCapacities (s : Size) (capacities : List ℕ) : Type 0 where
  pub long : length capacities ≡ 2 * vertices s
  pub within : (e : ℕ) → slice_index capacities e ≤ max_capacity
  pub no_edge : (e : ℕ) → is_edge s e ≡ false → slice_index capacities e ≡ 0

-- what a wire of this width uses of an edge of a layer
abbrev pub demand : ℕ → ℕ → ℕ → ℕ
demand width layer_width spacing = max width layer_width + spacing
