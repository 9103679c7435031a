-- Floors of prices.
use Rattle.std.specs.Prelude.{ℕ, ◌≤◌, ◌<◌, List, slice_index}
use Rattle.grid_base.specs.declared.axis.Axis.{Axis}
use Rattle.grid_base.specs.declared.axis.Axis.TheVariants.{X, Y}
use Rattle.grid_base.specs.Numbers.{edge_axis}
use Rattle.grid_graph.specs.declared.grid.Grid.{Grid}
use Rattle.grid_graph.specs.Grids.{capacity, edge_numbers}
use Rattle.edge_prices.specs.declared.least_prices.LeastPrices.{LeastPrices}
use Rattle.edge_prices.specs.Limits.{max_price}

-- the least price along an axis
abbrev pub least_along : LeastPrices → Axis → ℕ
least_along least X = least.along_x
least_along least Y = least.along_y

-- no open edge has a lower price than the least one along its axis
pub record AreLeast (g : Grid) (prices : List ℕ) (least : LeastPrices) : Type 0 where
  pub below : (e : ℕ) → e < edge_numbers g → 0 < capacity g e → least_along least (edge_axis e) ≤ slice_index prices e
  pub within : (axis : Axis) → least_along least axis ≤ max_price
