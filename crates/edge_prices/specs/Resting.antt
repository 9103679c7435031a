-- Loads and prices apart from their grid.
use Rattle.std.specs.Prelude.{ℕ, List, Option}
use Rattle.grid_graph.specs.declared.grid.Grid.{Grid}
use Rattle.edge_prices.specs.declared.resting_prices.RestingPrices.{RestingPrices}
use Rattle.edge_prices.specs.Kept.{IsKept}
use Rattle.edge_prices.specs.Limits.{IsScale, IsBudget}

-- the scale and the budget of the prices
abbrev pub resting_scale : RestingPrices → ℕ
resting_scale r = r.scale

abbrev pub resting_budget : RestingPrices → Option ℕ
resting_budget r = r.budget

-- the loads as they now stand
abbrev pub resting_loads : RestingPrices → List ℕ
resting_loads r = r.loads.items

-- they are loads and prices of this grid
pub record RestOn (g : Grid) (r : RestingPrices) : Type 0 where
  pub scaled : IsScale r.scale
  pub budgeted : IsBudget r.budget
  pub kept : IsKept g r.loads.items r.scale r.budget r.prices.items r.top r.least r.tile_prices.items r.stale
