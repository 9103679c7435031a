-- The edges of a layer that has a capacity along their axis.
use Rattle.std.proofs.Common.{◌≡◌, ◌≢◌, ℕ, ◌+◌, ◌<◌, cond, ltb, true, false, ⊎_elim, slice_index, refl, ap, ◌∙◌, arith}
use Rattle.std.proofs.lemmas.Bool.{cases_Bool, lt-ltb}
use Rattle.grid_base.specs.declared.axis.Axis.{Axis}
use Rattle.grid_base.specs.declared.axis.Axis.TheVariants.{X, Y}
use Rattle.grid_base.specs.Lines.{edge_from}
use Rattle.grid_base.specs.Numbers.{cols, rows, vertices, col_of, row_of, layer_of, edge_along, IsVertex, IsPiece}
use Rattle.grid_base.proofs.Pieces.{is_even, is_odd, start_of-to_next_col, start_of-to_next_row, end_place-to_next_col, end_place-to_next_row}
use Rattle.grid_graph.specs.declared.grid.Grid.{Grid}
use Rattle.grid_graph.specs.declared.ground.Ground.TheVariants.{Open, WithChoked}
use Rattle.grid_graph.specs.declared.kind.Kind.TheVariants as kinds
use Rattle.grid_graph.specs.Capacities.{capacities_along, layer_capacity}
use Rattle.grid_graph.specs.Grids.{size_of, layout_of, capacity, first_capacity}
use Rattle.grid_graph.specs.Layouts.{Layout}
use Rattle.made_designs.specs.Layers.{AllowsAlong}

-- an edge of a layer that has a capacity in its direction is no wall, whatever its own capacity
no_wall : (own first : ℕ) → 0 < first → cond (ltb 0 own) kinds.Open (cond (ltb 0 first) kinds.Choked kinds.Wall) ≢ kinds.Wall
no_wall own first positive = ⊎_elim
    (λ (some : ltb 0 own ≡ true). rw some (λ (open_wall : kinds.Open ≡ kinds.Wall). absurd (cc)))
    (λ (none : ltb 0 own ≡ false). rw (none, lt-ltb 0 first positive) (λ (choked_wall : kinds.Choked ≡ kinds.Wall). absurd (cc)))
    (cases_Bool (ltb 0 own))

-- before any adjustment an edge has its layer's capacity along its axis
layer_capacity-along : (y : Layout) (axis : Axis) (v : ℕ) → IsPiece y.size (edge_from axis v) → layer_capacity y (edge_along axis v).0 ≡ slice_index (capacities_along y axis) (layer_of y.size v)
layer_capacity-along y X v piece =
    let s = y.size in
    let vertex : IsVertex s v = rw (start_of-to_next_col v) at piece.0 in
    let far = rw (end_place-to_next_col s v) at piece.1 in
    rw (start_of-to_next_col v, is_even v, lt-ltb v (vertices s) vertex, lt-ltb (col_of s v + 1) (cols s) far.0) refl
layer_capacity-along y Y v piece =
    let s = y.size in
    let vertex : IsVertex s v = rw (start_of-to_next_row v) at piece.0 in
    let far = rw (end_place-to_next_row s v) at piece.1 in
    rw (start_of-to_next_row v, is_odd v, lt-ltb v (vertices s) vertex, lt-ltb (row_of s v + 1) (rows s) far.1) refl

module _ (g : Grid) (axis : Axis) (layer : ℕ) (positive : 0 < slice_index (capacities_along (layout_of g) axis) layer) where
  starts_positive : (v : ℕ) → IsPiece (size_of g) (edge_from axis v) → layer_of (size_of g) v ≡ layer → 0 < first_capacity g (edge_along axis v).0
  starts_positive v piece here =
      let first : first_capacity g (edge_along axis v).0 ≡ slice_index (capacities_along (layout_of g) axis) layer =
      layer_capacity-along (layout_of g) axis v piece ∙ ap (slice_index (capacities_along (layout_of g) axis)) here in
      omega (arith, first, positive)

  -- where the layer has a capacity along the axis, its edges are no walls
  pub allows_choked : AllowsAlong g WithChoked axis layer
  allows_choked v piece here = let e = (edge_along axis v).0 in no_wall (capacity g e) (first_capacity g e) (starts_positive v piece here)

  -- and they are open where no adjustment has changed them
  pub allows_open : ((v : ℕ) → capacity g (edge_along axis v).0 ≡ first_capacity g (edge_along axis v).0) → AllowsAlong g Open axis layer
  allows_open same v piece here =
      let some : 0 < capacity g (edge_along axis v).0 = omega (arith, same v, starts_positive v piece here) in
      rw (lt-ltb 0 (capacity g (edge_along axis v).0) some) refl
