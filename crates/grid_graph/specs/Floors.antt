-- Floors of weights.
use Rattle.std.specs.Prelude.{ℕ, ◌*◌, ◌<◌, ◌≤◌, List}
use Rattle.grid_base.specs.declared.axis.Axis.{Axis}
use Rattle.grid_base.specs.declared.axis.Axis.TheVariants.{X, Y}
use Rattle.grid_base.specs.declared.piece.Piece.{Piece}
use Rattle.grid_base.specs.declared.piece.Piece.TheVariants.{Edge, Via}
use Rattle.grid_base.specs.declared.size.Size.{Size}
use Rattle.grid_base.specs.Numbers.{edge_axis}
use Rattle.grid_graph.specs.declared.floors.Floors.{Floors}
use Rattle.grid_graph.specs.Flat.{tiles}
use Rattle.grid_graph.specs.Limits.{max_weight}
use Rattle.grid_graph.specs.Weighed.{Weighs}

-- the floor of an axis
abbrev pub floor_along : Floors → Axis → ℕ
floor_along floors X = floors.along_x
floor_along floors Y = floors.along_y

-- the floor of a piece: that of an edge's axis, or that of vias
abbrev pub floor_of : Floors → Piece → ℕ
floor_of floors (Edge e) = floor_along floors (edge_axis e.0)
floor_of floors (Via v) = floors.via

-- no piece of the list weighs less than its floor
abbrev pub AreFloors : Floors → List (Piece × ℕ) → Type 0
AreFloors floors pieces = (p : Piece) (weight : ℕ) → Weighs pieces p weight → floor_of floors p ≤ weight

-- nor is the number of a tile edge below the floor of its axis
abbrev pub AreTileFloors : Size → Floors → (ℕ → ℕ) → Type 0
AreTileFloors s floors over = (e : ℕ) → e < 2 * tiles s → floor_along floors (edge_axis e) ≤ over e

-- no floor is above the limit of weights
pub record AreWithin (floors : Floors) : Type 0 where
  pub x : floors.along_x ≤ max_weight
  pub y : floors.along_y ≤ max_weight
  pub vias : floors.via ≤ max_weight
