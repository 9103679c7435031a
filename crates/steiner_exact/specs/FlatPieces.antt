-- The pieces of a flat grid.
use Rattle.std.specs.Prelude.{ℕ, ◌+◌, ◌*◌, Bool, ◌&&◌, List, map, ltb}
use Rattle.std.specs.List.{filter, range_with_len}
use Rattle.grid_base.specs.declared.axis.Axis.{Axis}
use Rattle.grid_base.specs.declared.axis.Axis.TheVariants.{X, Y}
use Rattle.grid_base.specs.declared.piece.Piece.{Piece}
use Rattle.grid_base.specs.declared.piece.Piece.TheVariants.{Edge}
use Rattle.grid_base.specs.declared.place.Place.{Place}
use Rattle.grid_base.specs.declared.size.Size.{Size}
use Rattle.grid_base.specs.Numbers.{cols, rows, vertices, place_at, edge_start, edge_axis}

-- whether there is a next place along an axis
abbrev pub goes_on : Size → Axis → Place → Bool
goes_on s X p = ltb (p.col + 1) (cols s)
goes_on s Y p = ltb (p.row + 1) (rows s)

-- whether the number is that of an edge in the grid
abbrev pub has_edge : Size → ℕ → Bool
has_edge s e = ltb e (2 * vertices s) && goes_on s (edge_axis e) (place_at s (edge_start e))

-- for each edge number whether the grid has that edge
abbrev pub edge_flags : Size → List Bool
edge_flags s = map (has_edge s) (range_with_len 0 (2 * vertices s))

-- all edges of a size, each with the number that f gives it
abbrev pub edges_with : Size → (ℕ → ℕ) → List (Piece × ℕ)
edges_with s f = map (λ e. (Edge (record { 0 = e }), f e)) (filter (has_edge s) (range_with_len 0 (2 * vertices s)))
