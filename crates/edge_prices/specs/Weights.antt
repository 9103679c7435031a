-- What pieces weigh and cost for a net, at a list of prices.
use Rattle.std.specs.Prelude.{ℕ, ◌+◌, ◌*◌, ◌≡◌, ◌≤◌, ◌<◌, Bool, List, length, slice_index, cond, ltb}
use Rattle.grid_base.specs.declared.piece.Piece.{Piece}
use Rattle.grid_base.specs.declared.piece.Piece.TheVariants.{Edge, Via}
use Rattle.grid_graph.specs.declared.grid.Grid.{Grid}
use Rattle.grid_graph.specs.Grids.{capacity, demand_on, edge_numbers, entries}
use Rattle.grid_graph.specs.Limits.{max_weight}
use Rattle.edge_prices.specs.Limits.{max_price}

-- prices of all edges and perhaps of more: none where an edge isn't open
pub record ArePrices (g : Grid) (prices : List ℕ) : Type 0 where
  pub each : edge_numbers g ≤ length prices
  pub within : (r : ℕ) → slice_index prices r ≤ max_price
  pub closed : (e : ℕ) → e < edge_numbers g → capacity g e ≡ 0 → slice_index prices e ≡ 0

-- a price list: one entry per edge number, and then one for the wirelength
pub record IsPriceList (g : Grid) (prices : List ℕ) : Type 0 where
  pub long : length prices ≡ entries g
  pub listed : ArePrices g prices

-- prices of the edges alone: one entry per edge number
pub record AreEdgePrices (g : Grid) (prices : List ℕ) : Type 0 where
  pub long : length prices ≡ edge_numbers g
  pub listed : ArePrices g prices

-- an edge is open where it has capacity
abbrev pub is_open : Grid → ℕ → Bool
is_open g e = ltb 0 (capacity g e)

-- what a net of this width pays for an edge: its price for each unit that the net's wire uses of it
abbrev pub edge_cost : Grid → ℕ → List ℕ → ℕ → ℕ
edge_cost g width prices e = slice_index prices e * demand_on g width e

-- the cost of a piece: that of an open edge; a choked edge and a via cost nothing
abbrev pub cost : Grid → ℕ → List ℕ → Piece → ℕ
cost g width prices (Edge e) = cond (is_open g e.0) (edge_cost g width prices e.0) 0
cost g width prices (Via v) = 0

-- the price of the wirelength, which is the entry behind those of the edges
abbrev pub wirelength_price : Grid → List ℕ → ℕ
wirelength_price g prices = slice_index prices (edge_numbers g)

-- the weight of a piece: four times its cost with the wirelength's price, and 1; that of a choked edge is the limit, above all of these
abbrev pub piece_weight : Grid → ℕ → List ℕ → Piece → ℕ
piece_weight g width prices (Edge e) = cond (is_open g e.0) (4 * (edge_cost g width prices e.0 + wirelength_price g prices) + 1) max_weight
piece_weight g width prices (Via v) = 4 * wirelength_price g prices + 1
