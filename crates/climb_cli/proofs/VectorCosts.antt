-- Where there is a resource, all capacities cost something at a price vector.
use Rattle.std.proofs.Common.{◌≡◌, ◌≢◌, ℕ, ◌*◌, ◌<◌, ◌≤◌, List, take, slice_index, Option, Some, None, refl, ◌∙◌, sym, ap, ⊎_elim, arith}
use Rattle.std.specs.Prelude.{unwrap_or}
use Rattle.std.proofs.Math.Nat.{mul-le-mul_left}
use Rattle.std.proofs.lemmas.Bool.{cases_eq}
use Rattle.std.proofs.lemmas.List.{get_or-take}
use Rattle.bound_climb.specs.Climbs.{with_price_of}
use Rattle.dual_bound.specs.Bounds.{IsResource}
use Rattle.dual_bound.specs.Prices.{price_at, capacity_cost}
use Rattle.dual_bound.proofs.Closed.{at_edge, at_wirelength}
use Rattle.dual_bound.proofs.Entries.{one_entry}
use Rattle.edge_prices.specs.declared.budget.Budget.{Budget}
use Rattle.edge_prices.specs.Budgets.{most_of, price_per_piece}
use Rattle.edge_prices.specs.Vectors.{capacity_of, index_of, top_of, price_vector}
use Rattle.edge_prices.specs.Weights.{wirelength_price}
use Rattle.edge_prices.proofs.PriceVectors.{price_or_zero-positive, entry-price_vector}
use Rattle.grid_graph.specs.declared.grid.Grid.{Grid}
use Rattle.grid_graph.specs.Grids.{capacity, edge_numbers, entries}
use Rattle.route_judge.specs.Bounds.{HasResource}

-- a budget with another price keeps the same wirelength
pub most_stays : (g : Grid) (vector : List ℕ) (budget : Option Budget) → most_of (with_price_of g vector budget) ≡ most_of budget
most_stays g vector None = refl
most_stays g vector (Some b) = refl

per_piece : (g : Grid) (vector : List ℕ) (budget : Option Budget) → 0 < unwrap_or (most_of budget) 0 → price_per_piece (with_price_of g vector budget) ≡ wirelength_price g vector
per_piece g vector None has = absurd (omega (arith, has))
per_piece g vector (Some b) has = refl

-- a resource has the price that stands in the vector
price_is : (g : Grid) (vector : List ℕ) (budget : Option Budget) (r : ℕ) → IsResource g (most_of budget) r
    → price_at g (take (edge_numbers g) vector) (with_price_of g vector budget) r ≡ slice_index vector r
price_is g vector budget r resource =
    let last = edge_numbers g in
    let edges = take last vector in
    let priced = price_per_piece (with_price_of g vector budget) in
    ⊎_elim
    (λ (is : r ≡ last).
    let has : 0 < unwrap_or (most_of budget) 0 = omega (arith, resource.has_capacity, at_wirelength g (unwrap_or (most_of budget) 0) (capacity g r) r is) in
    at_wirelength g priced (slice_index edges r) r is ∙ per_piece g vector budget has ∙ ap (slice_index vector) (sym is))
    (λ (differs : r ≢ last).
    let number : r < last = omega (arith, resource.entry, differs) in
    at_edge g priced (slice_index edges r) r differs ∙ get_or-take last vector r 0 number)
    (cases_eq r last)

-- which is not 0
price_positive : (g : Grid) (loads : List ℕ) (scale : ℕ) (budget : Option ℕ) (r : ℕ) → IsResource g budget r → 1 ≤ slice_index (price_vector g loads scale budget) r
price_positive g loads scale budget r resource = omega (
  arith,
  entry-price_vector g loads scale budget r resource.entry,
  price_or_zero-positive (capacity_of g budget r) (top_of g loads scale budget) (index_of g loads scale budget r) resource.has_capacity,
)

-- so there is no resource where the capacities cost nothing
pub no_resource : (g : Grid) (loads : List ℕ) (scale : ℕ) (budget : Option Budget)
    → capacity_cost g (take (edge_numbers g) (price_vector g loads scale (most_of budget))) (with_price_of g (price_vector g loads scale (most_of budget)) budget) ≡ 0
    → ¬ HasResource g (most_of budget)
no_resource g loads scale budget none has =
    let vector = price_vector g loads scale (most_of budget) in
    let edges = take (edge_numbers g) vector in
    let priced = with_price_of g vector budget in
    let r = has.0 in
    let price = price_at g edges priced r in
    let most = capacity_of g (most_of priced) r in
    let has_price : 1 ≤ price = omega (arith, price_is g vector budget r has.1, price_positive g loads scale (most_of budget) r has.1) in
    let has_capacity : 1 ≤ most = omega (arith, has.1.has_capacity, ap (λ b. capacity_of g b r) (most_stays g vector budget)) in
    let scaled : price * 1 ≤ price * most = mul-le-mul_left price has_capacity in
    let term : price * most ≤ capacity_cost g edges priced = one_entry (λ e. price_at g edges priced e * capacity_of g (most_of priced) e) (entries g) 0 r (omega arith) (omega (arith, has.1.entry)) in
    omega (arith, has_price, scaled, term, none)
