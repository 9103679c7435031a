-- Straight runs of pieces join their two ends.
use Rattle.std.proofs.Common.{◌≡◌, ℕ, zero, suc, ◌+◌, ◌-◌, ◌<◌, ◌≤◌, refl, sym, ◌∙◌, ap, subst, inl, arith, add-zero}
use Rattle.grid_base.specs.declared.piece.Piece.{Piece}
use Rattle.grid_base.specs.declared.place.Place.{Place}
use Rattle.grid_base.specs.declared.size.Size.{Size}
use Rattle.grid_base.specs.Numbers.{cols, rows, layers, vertex_number, start_of, end_place, to_next_col, to_next_row, to_next_layer, IsVertex, IsInside, Goes}
use Rattle.grid_base.specs.Walks.{WalkBetween}
use Rattle.grid_base.proofs.Places.{place_at-number, vertex_number-inside}
use Rattle.grid_base.proofs.Pieces.{start_of-to_next_col, start_of-to_next_row, end_place-to_next_col, end_place-to_next_row, goes_by_step}
use Rattle.grid_base.proofs.Walks.{WalkBetween-refl, WalkBetween-trans, WalkBetween-piece}

run : (s : Size) (F : Piece → Type 0) (at : ℕ → ℕ) (low n : ℕ) → IsVertex s (at low) → ((k : ℕ) → low ≤ k → k < low + n → WalkBetween s F (at k) (at (k + 1))) → WalkBetween s F (at low) (at (low + n))
run s F at low zero vertex steps = rw add-zero (WalkBetween-refl s F (at low) vertex)
run s F at low (suc n) vertex steps =
    let next : low + suc n ≡ low + n + 1 = omega arith in
    rw next
    (WalkBetween-trans s F (at low) (at (low + n)) (at (low + n + 1))
    (run s F at low n vertex (λ k from below. steps k from (omega arith)))
    (steps (low + n) (omega arith) (omega arith)))

-- vertices of which each two that follow each other are the ends of a walk
pub WalkBetween-run : (s : Size) (F : Piece → Type 0) (at : ℕ → ℕ) (low high : ℕ) → low ≤ high → IsVertex s (at low) → ((k : ℕ) → low ≤ k → k < high → WalkBetween s F (at k) (at (k + 1))) → WalkBetween s F (at low) (at high)
WalkBetween-run s F at low high order vertex steps =
    let whole : low + (high - low) ≡ high = omega arith in
    subst (λ n. WalkBetween s F (at low) (at n)) whole (run s F at low (high - low) vertex (λ k from below. steps k from (omega arith)))

-- a piece from a place to a place goes from the vertex there to the vertex there
goes_between : (s : Size) (by : Piece) (p q : Place) → IsInside s p → IsInside s q → start_of by ≡ vertex_number s p.col p.row p.layer → end_place s by ≡ q → Goes s by (vertex_number s p.col p.row p.layer) (vertex_number s q.col q.row q.layer)
goes_between s by p q in_p in_q starts arrives =
    goes_by_step s by (vertex_number s p.col p.row p.layer) (vertex_number s q.col q.row q.layer) (vertex_number-inside s p in_p) (vertex_number-inside s q in_q) starts
    (arrives ∙ sym (place_at-number s q.col q.row q.layer in_q.0 in_q.1))

-- the edge to the next column goes there
pub goes_to_next_col : (s : Size) (col row layer : ℕ) → col + 1 < cols s → row < rows s → layer < layers s → Goes s (to_next_col (vertex_number s col row layer)) (vertex_number s col row layer) (vertex_number s (col + 1) row layer)
goes_to_next_col s col row layer in_cols in_rows in_layers =
    let near = vertex_number s col row layer in
    let in_col : col < cols s = omega arith in
    goes_between s (to_next_col near) (record { col = col; row = row; layer = layer }) (record { col = col + 1; row = row; layer = layer })
    (in_col, in_rows, in_layers) (in_cols, in_rows, in_layers) (start_of-to_next_col near)
    (end_place-to_next_col s near
    ∙ ap (λ (p : Place). record { col = p.col + 1; row = p.row; layer = p.layer }) (place_at-number s col row layer in_col in_rows))

-- the edge to the next row goes there
pub goes_to_next_row : (s : Size) (col row layer : ℕ) → col < cols s → row + 1 < rows s → layer < layers s → Goes s (to_next_row (vertex_number s col row layer)) (vertex_number s col row layer) (vertex_number s col (row + 1) layer)
goes_to_next_row s col row layer in_cols in_rows in_layers =
    let near = vertex_number s col row layer in
    let in_row : row < rows s = omega arith in
    goes_between s (to_next_row near) (record { col = col; row = row; layer = layer }) (record { col = col; row = row + 1; layer = layer })
    (in_cols, in_row, in_layers) (in_cols, in_rows, in_layers) (start_of-to_next_row near)
    (end_place-to_next_row s near
    ∙ ap (λ (p : Place). record { col = p.col; row = p.row + 1; layer = p.layer }) (place_at-number s col row layer in_cols in_row))

-- the via to the next layer goes there
pub goes_to_next_layer : (s : Size) (col row layer : ℕ) → col < cols s → row < rows s → layer + 1 < layers s → Goes s (to_next_layer (vertex_number s col row layer)) (vertex_number s col row layer) (vertex_number s col row (layer + 1))
goes_to_next_layer s col row layer in_cols in_rows in_layers =
    let near = vertex_number s col row layer in
    let in_layer : layer < layers s = omega arith in
    goes_between s (to_next_layer near) (record { col = col; row = row; layer = layer }) (record { col = col; row = row; layer = layer + 1 })
    (in_cols, in_rows, in_layer) (in_cols, in_rows, in_layers) refl
    (ap (λ (p : Place). record { col = p.col; row = p.row; layer = p.layer + 1 }) (place_at-number s col row layer in_cols in_rows))

-- a run of pieces from vertex to vertex, below the border n of the grid
run_below : (s : Size) (F : Piece → Type 0) (at : ℕ → ℕ) (by : ℕ → Piece) (low high n : ℕ) → low ≤ high → high < n → IsVertex s (at low) → ((k : ℕ) → k + 1 < n → Goes s (by (at k)) (at k) (at (k + 1))) → ((k : ℕ) → low ≤ k → k < high → F (by (at k))) → WalkBetween s F (at low) (at high)
run_below s F at by low high n order inside vertex goes members =
    WalkBetween-run s F at low high order vertex
    (λ k from below. WalkBetween-piece s F (by (at k)) (at k) (at (k + 1)) (members k from below) (inl (goes k (omega arith))))

-- a run of edges from column to column joins its ends
pub WalkBetween-along_row : (s : Size) (F : Piece → Type 0) (row layer low high : ℕ) → low ≤ high → high < cols s → row < rows s → layer < layers s → ((k : ℕ) → low ≤ k → k < high → F (to_next_col (vertex_number s k row layer))) → WalkBetween s F (vertex_number s low row layer) (vertex_number s high row layer)
WalkBetween-along_row s F row layer low high order in_cols in_rows in_layers members =
    run_below s F (λ col. vertex_number s col row layer) to_next_col low high (cols s) order in_cols
    (vertex_number-inside s (record { col = low; row = row; layer = layer }) (omega arith, in_rows, in_layers))
    (λ k room. goes_to_next_col s k row layer room in_rows in_layers)
    members

-- a run of edges from row to row joins its ends
pub WalkBetween-along_col : (s : Size) (F : Piece → Type 0) (col layer low high : ℕ) → low ≤ high → col < cols s → high < rows s → layer < layers s → ((k : ℕ) → low ≤ k → k < high → F (to_next_row (vertex_number s col k layer))) → WalkBetween s F (vertex_number s col low layer) (vertex_number s col high layer)
WalkBetween-along_col s F col layer low high order in_cols in_rows in_layers members =
    run_below s F (λ row. vertex_number s col row layer) to_next_row low high (rows s) order in_rows
    (vertex_number-inside s (record { col = col; row = low; layer = layer }) (in_cols, omega arith, in_layers))
    (λ k room. goes_to_next_row s col k layer in_cols room in_layers)
    members

-- a run of vias from layer to layer joins its ends
pub WalkBetween-through_layers : (s : Size) (F : Piece → Type 0) (col row low high : ℕ) → low ≤ high → col < cols s → row < rows s → high < layers s → ((k : ℕ) → low ≤ k → k < high → F (to_next_layer (vertex_number s col row k))) → WalkBetween s F (vertex_number s col row low) (vertex_number s col row high)
WalkBetween-through_layers s F col row low high order in_cols in_rows in_layers members =
    run_below s F (λ layer. vertex_number s col row layer) to_next_layer low high (layers s) order in_layers
    (vertex_number-inside s (record { col = col; row = row; layer = low }) (in_cols, in_rows, omega arith))
    (λ k room. goes_to_next_layer s col row k in_cols in_rows room)
    members
