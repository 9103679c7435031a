-- Budgets: a wirelength that is to be kept, and its price.
use Rattle.std.specs.Prelude.{ℕ, ◌≤◌, Option, Some, None}
use Rattle.std.specs.Option.{option_map, ForSome}
use Rattle.edge_prices.specs.declared.budget.Budget.{Budget}
use Rattle.edge_prices.specs.Limits.{max_price, MayBeBudget}

-- a budget and its price are within their limits, where there is one
abbrev pub IsWithinLimits : Option Budget → Type 0
IsWithinLimits budget = ForSome budget (λ b. MayBeBudget b.most × (b.price ≤ max_price))

-- the wirelength that is to be kept, or none
abbrev pub most_of : Option Budget → Option ℕ
most_of budget = option_map (λ b. b.most) budget

-- the price of each piece; 0 where there is no budget
abbrev pub price_per_piece : Option Budget → ℕ
price_per_piece None = 0
price_per_piece (Some budget) = budget.price
