-- Net bounds bound a design.
use Rattle.std.proofs.Common.{ℕ, ◌*◌, ◌<◌, ◌≤◌, List, Option, subst}
use Rattle.rayon.proofs.ListFacts.{AllZip-weaken}
use Rattle.grid_graph.specs.declared.design.Design.{Design}
use Rattle.edge_prices.specs.declared.budget.Budget.{Budget}
use Rattle.edge_prices.specs.Budgets.{most_of}
use Rattle.dual_bound.specs.Bounds.{BoundsDesign}
use Rattle.dual_bound.specs.DesignBounds.{IsAtMostEachRoute, IsBoundOfNet, IsSumOfBounds}
use Rattle.dual_bound.specs.Prices.{ArePricesWith, capacity_cost}
use Rattle.dual_bound.proofs.Duality.{duality}
use Rattle.dual_bound.proofs.Routes.{net_bound_at_most}

pub net_bounds_bound : (d : Design) (prices : List ℕ) (budget : Option Budget) (total a b : ℕ) → ArePricesWith d.grid prices budget → 0 < capacity_cost d.grid prices budget
    → IsSumOfBounds d.grid prices budget d.nets total → 1 ≤ b → a * capacity_cost d.grid prices budget ≤ total * b → BoundsDesign d (most_of budget) a b
net_bounds_bound d prices budget total a b are some is positive bound =
    duality d prices budget is.bounds a b are some
    (AllZip-weaken (IsBoundOfNet d.grid prices budget) (IsAtMostEachRoute d.grid prices budget) (net_bound_at_most d.grid prices budget) d.nets is.bounds is.each)
    positive (subst (λ (t : ℕ). a * capacity_cost d.grid prices budget ≤ t * b) is.sums bound)
