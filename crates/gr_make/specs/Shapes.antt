-- The shape of a generated design, and its limits.
use Rattle.std.specs.Prelude.{ℕ, ◌^◌, ◌≤◌}
use Rattle.gr_make.specs.declared.shape.Shape.{Shape}

-- the fewest columns, and the fewest rows
abbrev pub min_made_side : ℕ
min_made_side = 2

-- the most columns, and the most rows
abbrev pub max_made_side : ℕ
max_made_side = 2 ^ 10

-- the fewest layers
abbrev pub min_made_layers : ℕ
min_made_layers = 2

-- the most layers
abbrev pub max_made_layers : ℕ
max_made_layers = 8

-- the most nets
abbrev pub max_made_nets : ℕ
max_made_nets = 2 ^ 20

-- a shape within the limits
pub record IsShape (shape : Shape) : Type 0 where
  pub some_cols : min_made_side ≤ shape.cols
  pub few_cols : shape.cols ≤ max_made_side
  pub some_rows : min_made_side ≤ shape.rows
  pub few_rows : shape.rows ≤ max_made_side
  pub some_layers : min_made_layers ≤ shape.layers
  pub few_layers : shape.layers ≤ max_made_layers
  pub few_nets : shape.nets ≤ max_made_nets
