-- The neighbours of a vertex, in order.
use Rattle.std.specs.Prelude.{ℕ, ◌+◌, ◌-◌, ◌*◌, Bool, List, [], ◌∷◌, Option, Some, None, IfSome, cond, ltb}
use Rattle.std.specs.List.{filter_map}
use Rattle.grid_base.specs.declared.piece.Piece.{Piece}
use Rattle.grid_base.specs.declared.size.Size.{Size}
use Rattle.grid_base.specs.declared.vertex.Vertex.{Vertex}
use Rattle.grid_base.specs.Numbers.{cols, rows, layers, col_of, row_of, layer_of, to_next_col, to_next_row, to_next_layer, Connects}

-- a step to the vertex w by the piece p, where it stays inside the grid
abbrev pub step : Bool → ℕ → Piece → Option (Vertex × Piece)
step inside w p = cond inside (Some (record { 0 = w }, p)) None

-- where the step is there, its piece connects the vertex v with the one that it leads to
abbrev pub LeadsFrom : Size → ℕ → Option (Vertex × Piece) → Type 0
LeadsFrom s v found = IfSome found (λ x. Connects s x.1 v x.0.0)

-- to the column before
abbrev pub west : Size → ℕ → Option (Vertex × Piece)
west s v = step (ltb 0 (col_of s v)) (v - 1) (to_next_col (v - 1))

-- to the next column
abbrev pub east : Size → ℕ → Option (Vertex × Piece)
east s v = step (ltb (col_of s v + 1) (cols s)) (v + 1) (to_next_col v)

-- to the row before
abbrev pub south : Size → ℕ → Option (Vertex × Piece)
south s v = step (ltb 0 (row_of s v)) (v - cols s) (to_next_row (v - cols s))

-- to the next row
abbrev pub north : Size → ℕ → Option (Vertex × Piece)
north s v = step (ltb (row_of s v + 1) (rows s)) (v + cols s) (to_next_row v)

-- to the layer before
abbrev pub down : Size → ℕ → Option (Vertex × Piece)
down s v = step (ltb 0 (layer_of s v)) (v - cols s * rows s) (to_next_layer (v - cols s * rows s))

-- to the next layer
abbrev pub up : Size → ℕ → Option (Vertex × Piece)
up s v = step (ltb (layer_of s v + 1) (layers s)) (v + cols s * rows s) (to_next_layer v)

-- the six steps, in order
abbrev pub steps : Size → ℕ → List (Option (Vertex × Piece))
steps s v = west s v ∷ east s v ∷ south s v ∷ north s v ∷ down s v ∷ up s v ∷ []

-- those that are there
abbrev pub present : {X : Type 0} → List (Option X) → List X
present xs = filter_map (λ x. x) xs

-- the neighbours of a vertex with the pieces that lead there: west, east, south, north, down, up
abbrev pub neighbours : Size → ℕ → List (Vertex × Piece)
neighbours s v = present (steps s v)
