-- The two tiles of a tile edge.
use Rattle.std.specs.Prelude.{ℕ, ◌+◌, ◌-◌, ◌^◌, min}
use Rattle.grid_base.specs.declared.axis.Axis.{Axis}
use Rattle.grid_base.specs.declared.axis.Axis.TheVariants.{X, Y}
use Rattle.grid_base.specs.declared.size.Size.{Size}
use Rattle.grid_base.specs.Numbers.{cols, edge_axis, edge_start}

-- from a tile to the next one along an axis
abbrev pub tile_step : Axis → Size → ℕ
tile_step X s = 1
tile_step Y s = cols s

-- the tile from which a tile edge leads, and the one to which it does; tiles have numbers of 32 bits
abbrev pub near_tile : ℕ → ℕ
near_tile tile_edge = edge_start tile_edge

abbrev pub far_tile : Size → ℕ → ℕ
far_tile s tile_edge = min (edge_start tile_edge + tile_step (edge_axis tile_edge) s) (2 ^ 32 - 1)
