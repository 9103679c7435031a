-- Straight lines: places in line, what lies between them, and edges along an axis.
use Rattle.std.specs.Prelude.{ℕ, Bool, true, false, ◌≡◌, ◌≤◌, ◌⊎◌, min, max}
use Rattle.grid_base.specs.declared.axis.Axis.{Axis}
use Rattle.grid_base.specs.declared.axis.Axis.TheVariants.{X, Y}
use Rattle.grid_base.specs.declared.piece.Piece.{Piece}
use Rattle.grid_base.specs.declared.piece.Piece.TheVariants.{Edge, Via}
use Rattle.grid_base.specs.declared.place.Place.{Place}
use Rattle.grid_base.specs.declared.size.Size.{Size}
use Rattle.grid_base.specs.Numbers.{cols, edge_along, edge_axis}

-- the two axes are one
abbrev pub is_same_axis : Axis → Axis → Bool
is_same_axis X X = true
is_same_axis X Y = false
is_same_axis Y X = false
is_same_axis Y Y = true

-- the piece is an edge along the axis
abbrev pub is_along : Axis → Piece → Bool
is_along axis (Edge e) = is_same_axis (edge_axis e.0) axis
is_along axis (Via v) = false

-- the piece that goes from a vertex along an axis
abbrev pub edge_from : Axis → ℕ → Piece
edge_from axis v = Edge (edge_along axis v)

-- by how much an edge along an axis raises the number of a vertex
abbrev pub stride : Axis → Size → ℕ
stride X s = 1
stride Y s = cols s

-- two places that differ in at most one of column, row and layer
abbrev pub AreInLine : Place → Place → Type 0
AreInLine p q =
    ((p.row ≡ q.row) × (p.layer ≡ q.layer)) ⊎ (((p.col ≡ q.col) × (p.layer ≡ q.layer)) ⊎ ((p.col ≡ q.col) × (p.row ≡ q.row)))

-- a number from one number to another, in either order
abbrev pub IsFromTo : ℕ → ℕ → ℕ → Type 0
IsFromTo m n k = (min m n ≤ k) × (k ≤ max m n)

-- the place lies between two others
pub record IsBetween (p q place : Place) : Type 0 where
  pub col : IsFromTo p.col q.col place.col
  pub row : IsFromTo p.row q.row place.row
  pub layer : IsFromTo p.layer q.layer place.layer
