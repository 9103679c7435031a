-- Boxes of terminals: the columns, rows and layers that they span.
use Rattle.std.specs.Prelude.{ℕ, zero, suc, ◌+◌, ◌-◌, ◌*◌, ◌^◌, ◌<◌, ◌==◌, cond, min, max, List, length, get_or}
use Rattle.grid_base.specs.declared.place.Place.{Place}
use Rattle.grid_base.specs.declared.size.Size.{Size}
use Rattle.grid_base.specs.declared.vertex.Vertex.{Vertex}
use Rattle.grid_base.specs.Lists.{At}
use Rattle.grid_base.specs.Numbers.{cols, rows, layers, col_of, row_of, layer_of, place_at}
use Rattle.grid_graph.specs.declared.floors.Floors.{Floors}
use Rattle.steiner_tables.specs.Masks.{bit}
use Rattle.steiner_exact.specs.declared.extent.Extent.{Extent}
use Rattle.steiner_exact.specs.declared.terminal_box.TerminalBox.{TerminalBox}

-- the extent with one more number
abbrev pub with_number : Extent → ℕ → Extent
with_number extent x = record { least = min extent.least x; greatest = max extent.greatest x }

-- how far it reaches with one more number
abbrev pub width_with : Extent → ℕ → ℕ
width_with extent x = max extent.greatest x - min extent.least x

-- the box with one more place
abbrev pub with_place : TerminalBox → Place → TerminalBox
with_place box place = record {
  cols = with_number box.cols place.col;
  rows = with_number box.rows place.row;
  layers = with_number box.layers place.layer;
}

-- the box of no terminal
abbrev pub no_box : TerminalBox
no_box = let nothing : Extent = record { least = 2 ^ 32 - 1; greatest = 0 } in record { cols = nothing; rows = nothing; layers = nothing }

-- how far the box reaches with one more place, each step at its floor
abbrev pub box_distance : Floors → TerminalBox → Place → ℕ
box_distance floors box place =
    width_with box.cols place.col * floors.along_x + width_with box.rows place.row * floors.along_y + width_with box.layers place.layer * floors.via

-- the box doesn't reach beyond the grid
pub record IsBoxIn (s : Size) (box : TerminalBox) : Type 0 where
  pub in_cols : box.cols.greatest < cols s
  pub in_rows : box.rows.greatest < rows s
  pub in_layers : box.layers.greatest < layers s

-- no terminal
abbrev pub none : Vertex
none = record { 0 = 0 }

-- the least of f over the terminals of a mask, of the first n terminals; above all where there is none
unfoldable pub lowest : (ℕ → ℕ) → List Vertex → ℕ → ℕ → ℕ
lowest f terminals mask zero = 2 ^ 32 - 1
lowest f terminals mask (suc n) = cond (bit mask n == 1) (min (lowest f terminals mask n) (f (get_or terminals n none).0)) (lowest f terminals mask n)

-- the greatest of them; 0 where there is none
unfoldable pub highest : (ℕ → ℕ) → List Vertex → ℕ → ℕ → ℕ
highest f terminals mask zero = 0
highest f terminals mask (suc n) = cond (bit mask n == 1) (max (highest f terminals mask n) (f (get_or terminals n none).0)) (highest f terminals mask n)

-- what f spans over these terminals
abbrev pub extent_of : (ℕ → ℕ) → List Vertex → ℕ → ℕ → Extent
extent_of f terminals mask n = record { least = lowest f terminals mask n; greatest = highest f terminals mask n }

-- the box of these terminals
abbrev pub first_box : Size → List Vertex → ℕ → ℕ → TerminalBox
first_box s terminals mask n = record {
  cols = extent_of (col_of s) terminals mask n;
  rows = extent_of (row_of s) terminals mask n;
  layers = extent_of (layer_of s) terminals mask n;
}

-- the box of a mask's terminals
abbrev pub box_of : Size → List Vertex → ℕ → TerminalBox
box_of s terminals mask = first_box s terminals mask (length terminals)

-- how far the box of a mask's terminals reaches with a vertex, each step at its floor
abbrev pub box_low : Size → Floors → List Vertex → ℕ → ℕ → ℕ
box_low s floors terminals mask v = box_distance floors (box_of s terminals mask) (place_at s v)

-- a box for each mask of the terminals
abbrev pub AreBoxes : Size → List Vertex → List TerminalBox → Type 0
AreBoxes s terminals boxes = (mask : ℕ) → mask < 2 ^ length terminals → At boxes mask (box_of s terminals mask)
