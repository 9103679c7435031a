-- Lists of loads and of prices. They have one entry per edge number, and then one for the wirelength.
use Rattle.std.specs.Prelude.{ℕ, ◌≡◌, ◌≤◌, ◌==◌, List, length, map, slice_index, Option, unwrap_or, cond}
use Rattle.std.specs.List.{range_with_len}
use Rattle.grid_graph.specs.declared.grid.Grid.{Grid}
use Rattle.grid_graph.specs.Grids.{capacity, edge_numbers, entries}
use Rattle.edge_prices.specs.Greatest.{greatest}
use Rattle.grid_graph.specs.Limits.{max_load}
use Rattle.edge_prices.specs.Prices.{index_or_zero, price_or_zero}

-- how much the entry's resource can carry: an edge its capacity, the wirelength its budget; 0 where the entry is no resource
abbrev pub capacity_of : Grid → Option ℕ → ℕ → ℕ
capacity_of g budget r = cond (r == edge_numbers g) (unwrap_or budget 0) (capacity g r)

-- the index of an entry at these loads; 0 where it is no resource
abbrev pub index_of : Grid → List ℕ → ℕ → Option ℕ → ℕ → ℕ
index_of g loads scale budget r = index_or_zero (capacity_of g budget r) (slice_index loads r) scale

-- the greatest index over all resources
abbrev pub top_of : Grid → List ℕ → ℕ → Option ℕ → ℕ
top_of g loads scale budget = greatest (index_of g loads scale budget) (entries g)

-- the price of an entry; 0 where it is no resource
abbrev pub price_of : Grid → List ℕ → ℕ → Option ℕ → ℕ → ℕ
price_of g loads scale budget r =
    price_or_zero (capacity_of g budget r) (top_of g loads scale budget) (index_of g loads scale budget r)

-- the price vector of these loads
abbrev pub price_vector : Grid → List ℕ → ℕ → Option ℕ → List ℕ
price_vector g loads scale budget = map (price_of g loads scale budget) (range_with_len 0 (entries g))

-- a list of loads
pub record IsLoadList (g : Grid) (loads : List ℕ) : Type 0 where
  pub long : length loads ≡ entries g
  pub within : (r : ℕ) → slice_index loads r ≤ max_load
