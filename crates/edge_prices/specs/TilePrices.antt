-- What is cheapest over a tile edge.
use Rattle.std.specs.Prelude.{ℕ, ◌+◌, ◌*◌, ◌≡◌, ◌≤◌, ◌<◌, List, length, slice_index, cond, ltb}
use Rattle.grid_base.specs.Numbers.{layers}
use Rattle.grid_graph.specs.declared.grid.Grid.{Grid}
use Rattle.grid_graph.specs.Flat.{tiles}
use Rattle.grid_graph.specs.Grids.{size_of, demand_on, edge_numbers}
use Rattle.grid_graph.specs.Limits.{max_demand, max_weight}
use Rattle.edge_prices.specs.Least.{least}
use Rattle.edge_prices.specs.Limits.{max_price}
use Rattle.edge_prices.specs.Weights.{is_open, wirelength_price}

-- a number above all prices, which stands for that of an edge that isn't open
abbrev pub no_price : ℕ
no_price = max_price + 1

-- the price of an edge, where it is open
abbrev pub open_price : Grid → List ℕ → ℕ → ℕ
open_price g prices e = cond (is_open g e) (slice_index prices e) no_price

-- the same of the edge on a layer over a tile edge
abbrev pub price_on : Grid → List ℕ → ℕ → ℕ → ℕ
price_on g prices e layer = open_price g prices (layer * (2 * tiles (size_of g)) + e)

-- the least price of the open edges over a tile edge
abbrev pub least_price_over : Grid → List ℕ → ℕ → ℕ
least_price_over g prices e = least no_price (price_on g prices e) (layers (size_of g))

-- a list of these, one for each tile edge
pub record AreTilePrices (g : Grid) (prices over : List ℕ) : Type 0 where
  pub long : length over ≡ 2 * tiles (size_of g)
  pub each : (e : ℕ) → e < 2 * tiles (size_of g) → slice_index over e ≡ least_price_over g prices e

-- no wire of this width uses less of any edge
pub record IsLeastDemand (g : Grid) (width demand : ℕ) : Type 0 where
  pub below : (e : ℕ) → e < edge_numbers g → demand ≤ demand_on g width e
  pub within : demand ≤ max_demand

-- what an open edge of this price weighs where a wire uses this much of it, and the limit where there is no price
abbrev pub weight_at : ℕ → ℕ → ℕ → ℕ
weight_at price demand wirelength = cond (ltb max_price price) max_weight (4 * (price * demand + wirelength) + 1)

-- what the edges over a tile edge weigh at least
abbrev pub least_weight_over : Grid → List ℕ → ℕ → ℕ → ℕ
least_weight_over g prices demand e = weight_at (least_price_over g prices e) demand (wirelength_price g prices)
