-- The limits of prices.
use Rattle.std.specs.Prelude.{ℕ, ◌≤◌, ◌^◌, Option}
use Rattle.std.specs.Option.{ForSome}
use Rattle.grid_graph.specs.Limits.{max_budget}

-- the last index of the price table
abbrev pub last_index : ℕ
last_index = 255

-- the greatest price of a price list
abbrev pub max_price : ℕ
max_price = 2 ^ 15

-- the greatest cost of an edge for a net: a price for each unit of its demand
abbrev pub max_cost : ℕ
max_cost = 2 ^ 25

-- the greatest scale
abbrev pub max_scale : ℕ
max_scale = 16

-- how strongly loads count
abbrev pub IsScale : ℕ → Type 0
IsScale scale = (1 ≤ scale) × (scale ≤ max_scale)

-- a wirelength may be a budget
abbrev pub MayBeBudget : ℕ → Type 0
MayBeBudget most = (1 ≤ most) × (most ≤ max_budget)

-- a wirelength that is to be kept, or none
abbrev pub IsBudget : Option ℕ → Type 0
IsBudget budget = ForSome budget MayBeBudget
