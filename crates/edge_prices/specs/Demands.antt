-- What a net pays for edges, as it is looked up.
use Rattle.std.specs.Prelude.{ℕ, ◌-◌, ◌*◌, ◌≡◌, ◌≤◌, ◌<◌, Bool, List, slice_index, IsTrue}
use Rattle.grid_base.specs.Numbers.{cols, rows, vertices, layer_of, edge_start}
use Rattle.grid_graph.specs.declared.grid.Grid.{Grid}
use Rattle.grid_graph.specs.Grids.{size_of, capacity, demand_on, edge_numbers}
use Rattle.grid_graph.specs.Limits.{max_demand}
use Rattle.edge_prices.specs.Weights.{ArePrices}

-- by layer, what a wire of this width uses of an edge
pub record AreDemands (g : Grid) (width : ℕ) (demands : List ℕ) : Type 0 where
  pub value : (e : ℕ) → e < edge_numbers g → slice_index demands (layer_of (size_of g) (edge_start e)) ≡ demand_on g width e
  pub within : (layer : ℕ) → slice_index demands layer ≤ max_demand

-- each open edge has a price that isn't 0
abbrev pub AreAllPriced : Grid → List ℕ → Type 0
AreAllPriced g prices = (e : ℕ) → e < edge_numbers g → 0 < capacity g e → 0 < slice_index prices e

-- how many vertices a layer has
abbrev pub layer_size : Grid → ℕ
layer_size g = cols (size_of g) * rows (size_of g)

-- prices and demands are those of the grid and the width, and the counts are the grid's
pub record IsNetPrices (g : Grid) (width : ℕ) (prices demands : List ℕ) (edges vias per_layer : ℕ) (all_priced : Bool) : Type 0 where
  pub listed : ArePrices g prices
  pub used : AreDemands g width demands
  pub edge_count : edges ≡ edge_numbers g
  pub via_count : vias ≡ vertices (size_of g) - layer_size g
  pub layer_count : per_layer ≡ layer_size g
  pub priced : IsTrue all_priced → AreAllPriced g prices
