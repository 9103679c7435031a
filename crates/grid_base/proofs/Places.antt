-- Places and vertex numbers undo each other, and what a step to the next column, row or layer does to a number.
use Rattle.std.proofs.Common.{◌≡◌, ℕ, ◌+◌, ◌*◌, ◌/◌, ◌<◌, refl, arith}
use Rattle.std.proofs.lemmas.Nat.{div-mul-add, mod-mul-add, div_below, mod_below}
use Rattle.grid_base.specs.declared.size.Size.{Size}
use Rattle.grid_base.specs.declared.place.Place.{Place}
use Rattle.grid_base.specs.Numbers.{cols, rows, layers, vertex_number, place_at, col_of, row_of, layer_of, IsVertex, IsInside}

-- a vertex has the number of its place
pub vertex_number-place : (s : Size) (v : ℕ) → vertex_number s (col_of s v) (row_of s v) (layer_of s v) ≡ v
vertex_number-place s v = grind arith

pub vertex_number-next_col : (s : Size) (v : ℕ) → vertex_number s (col_of s v + 1) (row_of s v) (layer_of s v) ≡ v + 1
vertex_number-next_col s v = grind arith

pub vertex_number-next_row : (s : Size) (v : ℕ) → vertex_number s (col_of s v) (row_of s v + 1) (layer_of s v) ≡ v + cols s
vertex_number-next_row s v = omega (arith, vertex_number-place s v)

pub vertex_number-next_layer : (s : Size) (v : ℕ) → vertex_number s (col_of s v) (row_of s v) (layer_of s v + 1) ≡ v + cols s * rows s
vertex_number-next_layer s v = omega (arith, vertex_number-place s v)

-- the place of a number is the place that it was made of
pub place_at-number : (s : Size) (col row layer : ℕ) → col < cols s → row < rows s → place_at s (vertex_number s col row layer) ≡ record { col = col; row = row; layer = layer }
place_at-number s col row layer in_cols in_rows =
    let across = mod-mul-add (layer * rows s + row) (cols s) col in_cols in
    let up = div-mul-add (layer * rows s + row) (cols s) col in_cols in
    let along = mod-mul-add layer (rows s) row in_rows in
    let over = div-mul-add layer (rows s) row in_rows in
    rw (across, up) (rw (along, over) refl)

-- a place in the grid has the number of a vertex
pub vertex_number-inside : (s : Size) (p : Place) → IsInside s p → IsVertex s (vertex_number s p.col p.row p.layer)
vertex_number-inside s p inside = grind arith

-- a vertex has a place in the grid
pub place_at-inside : (s : Size) (v : ℕ) → IsVertex s v → IsInside s (place_at s v)
place_at-inside s v vertex =
    let below_planes : v < rows s * layers s * cols s = omega (arith, vertex) in
    let below_rows : v / cols s < layers s * rows s = omega (arith, div_below v (cols s) (rows s * layers s) s.within.has_col below_planes) in
    (mod_below v (cols s) s.within.has_col, mod_below (v / cols s) (rows s) s.within.has_row, div_below (v / cols s) (rows s) (layers s) s.within.has_row below_rows)
