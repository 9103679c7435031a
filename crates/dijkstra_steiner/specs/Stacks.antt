-- A flat grid on top of itself, a layer for each mask of up to four terminals.
use Rattle.std.specs.Prelude.{ℕ, ◌≡◌, ◌+◌, ◌*◌, ◌-◌, ltb, cond, List}
use Rattle.grid_base.specs.declared.size.Size.{Size}
use Rattle.grid_base.specs.declared.vertex.Vertex.{Vertex}
use Rattle.grid_base.specs.Limits.{IsGridSize}
use Rattle.grid_base.specs.Numbers.{cols, rows, layers, layer_of}
use Rattle.grid_graph.specs.Flat.{tiles, tile_of}
use Rattle.steiner_tables.specs.Masks.{rooted_masks, all_of}
use Rattle.steiner_tables.specs.Tables.{rest_of}

-- a grid with the tiles of a flat grid, and a layer for each mask
pub record IsStackOf (stack flat : Size) : Type 0 where
  pub cols_of : cols stack ≡ cols flat
  pub rows_of : rows stack ≡ rows flat
  pub single : layers flat ≡ 1
  pub masks : layers stack ≡ rooted_masks

-- the grid is flat, and no more vertices than a grid may have are on its stack
abbrev pub HasStack : Size → Type 0
HasStack flat = (layers flat ≡ 1) × IsGridSize (cols flat) (rows flat) rooted_masks

-- the vertex of the stack for a mask at a vertex of the flat grid: the number of its layer is one less than the mask
abbrev pub on_stack : Size → ℕ → ℕ → ℕ
on_stack flat mask v = (mask - 1) * tiles flat + v

-- the mask of a vertex of the stack
abbrev pub mask_of : Size → ℕ → ℕ
mask_of stack w = layer_of stack w + 1

-- what a family leaves to go from a vertex of the stack; nothing where the mask is that of all terminals, or not one of theirs
abbrev pub rest_on : Size → List Vertex → (ℕ → ℕ → ℕ) → ℕ → ℕ
rest_on stack terminals low w =
    cond (ltb (mask_of stack w) (all_of terminals)) (rest_of terminals low (mask_of stack w) (tile_of stack w)) 0
