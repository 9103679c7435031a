-- What is no resource has no price.
use Rattle.std.proofs.Common.{◌≡◌, ◌≢◌, ℕ, ◌<◌, ◌==◌, Bool, cond, List, Option, Some, None, unwrap_or, slice_index, refl, sym, ◌∙◌, ap, ⊎_elim, arith, eq-eqb, ne_eqb}
use Rattle.std.proofs.lemmas.Bool.{cases_eq}
use Rattle.grid_graph.specs.declared.grid.Grid.{Grid}
use Rattle.grid_graph.specs.Grids.{capacity, edge_numbers, entries}
use Rattle.edge_prices.specs.Vectors.{capacity_of}
use Rattle.edge_prices.specs.declared.budget.Budget.{Budget}
use Rattle.edge_prices.specs.Budgets.{most_of, price_per_piece, IsWithinLimits}
use Rattle.dual_bound.specs.Prices.{ArePricesWith, price_at}

-- the entry of the wirelength, or one of an edge
pub at_wirelength : (g : Grid) (one other r : ℕ) → r ≡ edge_numbers g → cond (r == edge_numbers g) one other ≡ one
at_wirelength g one other r is = ap (λ (b : Bool). cond b one other) (eq-eqb r (edge_numbers g) is)

pub at_edge : (g : Grid) (one other r : ℕ) → r ≢ edge_numbers g → cond (r == edge_numbers g) one other ≡ other
at_edge g one other r differs = ap (λ (b : Bool). cond b one other) (ne_eqb r (edge_numbers g) differs)

no_budget : (budget : Option Budget) → IsWithinLimits budget → unwrap_or (most_of budget) 0 ≡ 0 → price_per_piece budget ≡ 0
no_budget None within none = refl
no_budget (Some budget) within none = let known = within budget refl in absurd (omega (arith, known.0.0, none))

pub price_of_no_resource : (g : Grid) (prices : List ℕ) (budget : Option Budget) (r : ℕ) → ArePricesWith g prices budget → r < entries g
    → capacity_of g (most_of budget) r ≡ 0 → price_at g prices budget r ≡ 0
price_of_no_resource g prices budget r are inside none = ⊎_elim
    (λ (is : r ≡ edge_numbers g). at_wirelength g (price_per_piece budget) (slice_index prices r) r is
    ∙ no_budget budget are.wirelength (sym (at_wirelength g (unwrap_or (most_of budget) 0) (capacity g r) r is) ∙ none))
    (λ (differs : r ≢ edge_numbers g). at_edge g (price_per_piece budget) (slice_index prices r) r differs
    ∙ are.edges.listed.closed r (omega (arith, inside, differs)) (sym (at_edge g (unwrap_or (most_of budget) 0) (capacity g r) r differs) ∙ none))
    (cases_eq r (edge_numbers g))
