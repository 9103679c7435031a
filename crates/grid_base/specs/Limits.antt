-- How large a grid may be.
use Rattle.std.specs.Prelude.{ℕ, ◌*◌, ◌^◌, ◌≤◌}

-- the most vertices of a grid
abbrev pub max_vertices : ℕ
max_vertices = 2 ^ 23

-- the most layers of a grid
abbrev pub max_layers : ℕ
max_layers = 16

-- these columns, rows and layers make a grid that is neither empty nor too large
pub record IsGridSize (cols rows layers : ℕ) : Type 0 where
  pub has_col : 1 ≤ cols
  pub has_row : 1 ≤ rows
  pub has_layer : 1 ≤ layers
  pub layer_limit : layers ≤ max_layers
  pub vertex_limit : cols * rows * layers ≤ max_vertices
