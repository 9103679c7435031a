-- What a keeper of prices holds.
use Rattle.std.specs.Prelude.{ℕ, ◌≡◌, false, List, Option}
use Rattle.grid_graph.specs.declared.grid.Grid.{Grid}
use Rattle.edge_prices.specs.declared.kept_prices.KeptPrices.{KeptPrices}
use Rattle.edge_prices.specs.Vectors.{price_vector}

-- the grid whose edges have prices
abbrev pub grid_of : KeptPrices → Grid
grid_of k = k.resources.grid.now

-- the scale and the budget of the prices
abbrev pub scale_of : KeptPrices → ℕ
scale_of k = k.resources.scale

abbrev pub budget_of : KeptPrices → Option ℕ
budget_of k = k.resources.budget

-- the loads as they now stand
abbrev pub loads_of : KeptPrices → List ℕ
loads_of k = k.loads.items

-- the price vector of the loads as they now stand
abbrev pub vector_of : KeptPrices → List ℕ
vector_of k = price_vector (grid_of k) (loads_of k) (scale_of k) (budget_of k)

-- the prices that are kept are renewed
abbrev pub IsRenewed : KeptPrices → Type 0
IsRenewed k = k.stale ≡ false

-- the keepers may differ in their loads and prices alone
pub record KeepsSetting (old new : KeptPrices) : Type 0 where
  pub grid : grid_of new ≡ grid_of old
  pub scale : scale_of new ≡ scale_of old
  pub budget : budget_of new ≡ budget_of old
