-- How much overflow every routing has, by what a price list shows.
use Rattle.std.specs.Prelude.{ℕ, ◌≡◌, ◌+◌, ◌-◌, ◌/◌, ◌<◌, ◌≤◌, List, slice_index, None}
use Rattle.grid_graph.specs.declared.design.Design.{Design}
use Rattle.dual_bound.specs.DesignBounds.{IsSumOfBounds}
use Rattle.dual_bound.specs.Prices.{capacity_cost}

-- the price is positive, and no price of the list is greater
pub record IsMostOfPrices (prices : List ℕ) (price : ℕ) : Type 0 where
  pub positive : 0 < price
  pub most : (r : ℕ) → slice_index prices r ≤ price

-- the greatest price of the list: no price is greater, and where it isn't 0 it is one of them
pub record IsGreatestPrice (prices : List ℕ) (price : ℕ) : Type 0 where
  pub most : (r : ℕ) → slice_index prices r ≤ price
  pub attained : 0 < price → (r : ℕ) × (slice_index prices r ≡ price)

-- what the nets' routes cost at least beyond what all capacities cost, by the greatest price, rounded up
abbrev pub least_overflow : ℕ → ℕ → ℕ → ℕ
least_overflow total cost price = (total - cost + (price - 1)) / price

-- the price list shows that every routing has at least so much overflow: as much as the nets' routes cost at least beyond the
-- capacities, by the greatest price, and none where all prices are 0
pub record ShowsOverflow (d : Design) (prices : List ℕ) (least : ℕ) : Type 0 where
  pub price : ℕ
  pub greatest : IsGreatestPrice prices price
  pub none : price ≡ 0 → least ≡ 0
  pub some : 0 < price → (total : ℕ) × IsSumOfBounds d.grid prices None d.nets total × (least ≡ least_overflow total (capacity_cost d.grid prices None) price)
