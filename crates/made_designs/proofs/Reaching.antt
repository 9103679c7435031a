-- Where the edges along x of the first layer and those along y of the second one are open or choked, these with vias join all vertices.
use Rattle.std.proofs.Common.{◌≡◌, ℕ, ◌<◌, ◌≤◌, ap, subst, arith}
use Rattle.grid_base.specs.declared.axis.Axis.TheVariants.{X, Y}
use Rattle.grid_base.specs.declared.place.Place.{Place}
use Rattle.grid_base.specs.declared.size.Size.{Size}
use Rattle.grid_base.specs.Lists.{At}
use Rattle.grid_base.specs.Numbers.{cols, rows, layers, vertex_number, col_of, row_of, layer_of, IsVertex}
use Rattle.grid_base.proofs.Joined.{Joins-from_one}
use Rattle.grid_base.proofs.Lists.{At-from_member}
use Rattle.grid_base.proofs.Places.{vertex_number-place, place_at-number, place_at-inside}
use Rattle.grid_base.proofs.Runs.{goes_to_next_col, goes_to_next_row, goes_to_next_layer, WalkBetween-along_row, WalkBetween-along_col, WalkBetween-through_layers}
use Rattle.grid_base.proofs.Walks.{WalkBetween-sym, WalkBetween-trans}
use Rattle.grid_graph.specs.declared.design.Design.{Design}
use Rattle.grid_graph.specs.declared.grid.Grid.{Grid}
use Rattle.grid_graph.specs.declared.ground.Ground.TheVariants.{WithChoked}
use Rattle.grid_graph.specs.declared.net_spec.NetSpec.{NetSpec}
use Rattle.grid_graph.specs.Grids.{size_of, Allows}
use Rattle.grid_graph.specs.Grounds.{Reaches, JoinsTerminals}
use Rattle.made_designs.specs.Layers.{AllowsAlong}

-- the layer of a place's vertex
layer_at : (s : Size) (col row layer : ℕ) → col < cols s → row < rows s → layer_of s (vertex_number s col row layer) ≡ layer
layer_at s col row layer in_cols in_rows = ap (λ (p : Place). p.layer) (place_at-number s col row layer in_cols in_rows)

module _ (g : Grid) (two : 2 ≤ layers (size_of g)) (across : AllowsAlong g WithChoked X 0) (along : AllowsAlong g WithChoked Y 1) where
  abbrev s : Size
  s = size_of g

  -- a walk within a row of the first layer
  row_walk : (col row : ℕ) → col < cols s → row < rows s → Reaches g WithChoked (vertex_number s 0 row 0) (vertex_number s col row 0)
  row_walk col row in_cols in_rows =
      WalkBetween-along_row s (Allows g WithChoked) row 0 0 col (omega arith) in_cols in_rows s.within.has_layer
      (λ k from below. across (vertex_number s k row 0) (goes_to_next_col s k row 0 (omega arith) in_rows s.within.has_layer).0 (layer_at s k row 0 (omega arith) in_rows))

  -- a walk within the first column of the second layer
  col_walk : (row : ℕ) → row < rows s → Reaches g WithChoked (vertex_number s 0 0 1) (vertex_number s 0 row 1)
  col_walk row in_rows =
      WalkBetween-along_col s (Allows g WithChoked) 0 1 0 row (omega arith) s.within.has_col in_rows two
      (λ k from below. along (vertex_number s 0 k 1) (goes_to_next_row s 0 k 1 s.within.has_col (omega arith) two).0 (layer_at s 0 k 1 s.within.has_col (omega arith)))

  -- a walk through the layers of a tile
  up_walk : (col row layer : ℕ) → col < cols s → row < rows s → layer < layers s → Reaches g WithChoked (vertex_number s col row 0) (vertex_number s col row layer)
  up_walk col row layer in_cols in_rows in_layers =
      WalkBetween-through_layers s (Allows g WithChoked) col row 0 layer (omega arith) in_cols in_rows in_layers
      (λ k from below. (goes_to_next_layer s col row k in_cols in_rows (omega arith)).0)

  -- a walk from the first vertex to a place: in the second layer to its row, in the first layer to its column, and up
  walk_to_place : (col row layer : ℕ) → col < cols s → row < rows s → layer < layers s → Reaches g WithChoked (vertex_number s 0 0 0) (vertex_number s col row layer)
  walk_to_place col row layer in_cols in_rows in_layers =
      let F = Allows g WithChoked in
      let at : ℕ → ℕ → ℕ → ℕ = vertex_number s in
      let up = up_walk 0 0 1 s.within.has_col s.within.has_row two in
      let down = WalkBetween-sym s F (at 0 row 0) (at 0 row 1) (up_walk 0 row 1 s.within.has_col in_rows two) in
      let to_row = WalkBetween-trans s F (at 0 0 0) (at 0 row 1) (at 0 row 0) (WalkBetween-trans s F (at 0 0 0) (at 0 0 1) (at 0 row 1) up (col_walk row in_rows)) down in
      let to_tile = WalkBetween-trans s F (at 0 0 0) (at 0 row 0) (at col row 0) to_row (row_walk col row in_cols in_rows) in
      WalkBetween-trans s F (at 0 0 0) (at col row 0) (at col row layer) to_tile (up_walk col row layer in_cols in_rows in_layers)

  -- and so to each vertex
  walk_to_vertex : (v : ℕ) → IsVertex s v → Reaches g WithChoked (vertex_number s 0 0 0) v
  walk_to_vertex v vertex =
      let inside = place_at-inside s v vertex in
      subst (Reaches g WithChoked (vertex_number s 0 0 0)) (vertex_number-place s v) (walk_to_place (col_of s v) (row_of s v) (layer_of s v) inside.0 inside.1 inside.2)

-- all nets of such a design are reachable
pub all_reachable : (d : Design) → 2 ≤ layers (size_of d.grid) → AllowsAlong d.grid WithChoked X 0 → AllowsAlong d.grid WithChoked Y 1 →
    (k : ℕ) (n : NetSpec) → At d.nets k n → JoinsTerminals d.grid WithChoked n.terminals
all_reachable d two across along k n at =
    let s = size_of d.grid in
    Joins-from_one s (Allows d.grid WithChoked) _ (vertex_number s 0 0 0)
    (λ v member.
    let found = At-from_member n.terminals (record { 0 = v }) member in
    walk_to_vertex d.grid two across along v ((d.limits.net k n at).vertices found.0 (record { 0 = v }) found.2))
