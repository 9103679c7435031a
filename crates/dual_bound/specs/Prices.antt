-- Price lists, and what sets of pieces cost at them.
use Rattle.std.specs.Prelude.{ℕ, ◌*◌, ◌==◌, List, slice_index, Option, cond}
use Rattle.std.specs.List.{sum_by, range_with_len}
use Rattle.std.specs.Option.{option_map}
use Rattle.grid_base.specs.declared.piece.Piece.{Piece}
use Rattle.grid_graph.specs.declared.grid.Grid.{Grid}
use Rattle.grid_graph.specs.Grids.{edge_numbers, entries}
use Rattle.edge_prices.specs.Vectors.{capacity_of}
use Rattle.edge_prices.specs.Weights.{AreEdgePrices}
use Rattle.edge_prices.specs.declared.budget.Budget.{Budget}
use Rattle.edge_prices.specs.Budgets.{IsWithinLimits, most_of, price_per_piece}
use Rattle.tree_set.specs.Loads.{tree_load}

-- a price list: any prices of the edges within the limit, 0 where an edge isn't open, and with a budget one of the wirelength
pub record ArePricesWith (g : Grid) (prices : List ℕ) (budget : Option Budget) : Type 0 where
  pub edges : AreEdgePrices g prices
  pub wirelength : IsWithinLimits budget

-- the price of an entry: of an edge, or of the wirelength
abbrev pub price_at : Grid → List ℕ → Option Budget → ℕ → ℕ
price_at g prices budget r = cond (r == edge_numbers g) (price_per_piece budget) (slice_index prices r)

-- what all capacities cost: the sum over the resources of price and capacity; what is no resource has no capacity
abbrev pub capacity_cost : Grid → List ℕ → Option Budget → ℕ
capacity_cost g prices budget = sum_by (λ r. price_at g prices budget r * capacity_of g (most_of budget) r) (range_with_len 0 (entries g))

-- what a set of pieces costs for a net of this width: the sum over the resources of price and load
abbrev pub load_cost : Grid → List ℕ → Option Budget → ℕ → List Piece → ℕ
load_cost g prices budget width set = sum_by (λ r. price_at g prices budget r * tree_load g width set r) (range_with_len 0 (entries g))

-- a wirelength that is to be kept, if there is one, at the price 0
abbrev pub free_budget : Option ℕ → Option Budget
free_budget most = option_map (λ m. record { most = m; price = 0 }) most
