-- Where there is a resource, a bound is stated: the prices of a vector are not 0 where there is capacity.
use Rattle.std.proofs.Common.{◌≡◌, ◌≢◌, ℕ, ◌*◌, ◌<◌, ◌≤◌, List, length, take, get_or, slice_index, Option, Some, None, refl, ◌∙◌, sym, ap, subst, ⊎_elim, arith}
use Rattle.std.specs.Prelude.{IsSome, unwrap_or}
use Rattle.std.specs.List.{sum_by, range_with_len}
use Rattle.std.proofs.Math.Nat.{mul-le-mul_left}
use Rattle.std.proofs.lemmas.Bool.{cases_eq}
use Rattle.std.proofs.lemmas.List.{get_or-take}
use Rattle.std.proofs.lemmas.List.FromFn.{get_or-range_with_len, length-range_with_len}
use Rattle.std.proofs.lemmas.List.Sums.{get_or-le-sum_by}
use Rattle.grid_base.specs.declared.piece.Piece.{Piece}
use Rattle.grid_graph.specs.declared.design.Design.{Design}
use Rattle.grid_graph.specs.declared.grid.Grid.{Grid}
use Rattle.grid_graph.specs.Grids.{capacity, edge_numbers, entries}
use Rattle.edge_prices.specs.Vectors.{capacity_of, index_of, top_of, price_vector}
use Rattle.edge_prices.proofs.PriceVectors.{price_or_zero-positive, entry-price_vector}
use Rattle.edge_prices.specs.declared.budget.Budget.{Budget}
use Rattle.fractions.specs.declared.fraction.Fraction.{Fraction}
use Rattle.edge_prices.specs.Budgets.{most_of, price_per_piece}
use Rattle.cert_text.specs.declared.cert.Cert.{Cert}
use Rattle.dual_bound.specs.Bounds.{IsResource}
use Rattle.dual_bound.specs.DesignBounds.{IsBoundOrNone}
use Rattle.dual_bound.specs.Prices.{price_at, capacity_cost}
use Rattle.dual_bound.proofs.Closed.{at_edge, at_wirelength}
use Rattle.router_cli.specs.Certified.{IsCertified, priced_budget}

-- the budget without its price
most_is : (g : Grid) (prices : List ℕ) (budget : Option ℕ) → most_of (priced_budget g prices budget) ≡ budget
most_is g prices None = refl
most_is g prices (Some most) = refl

-- its price, where there is one
per_piece : (g : Grid) (prices : List ℕ) (budget : Option ℕ) → 0 < unwrap_or budget 0
    → price_per_piece (priced_budget g prices budget) ≡ slice_index prices (edge_numbers g)
per_piece g prices None has = absurd (omega (arith, has))
per_piece g prices (Some most) has = refl

-- a resource has the price that stands in the list
price_is : (g : Grid) (prices : List ℕ) (budget : Option ℕ) (r : ℕ) → IsResource g budget r
    → price_at g (take (edge_numbers g) prices) (priced_budget g prices budget) r ≡ slice_index prices r
price_is g prices budget r resource =
    let last = edge_numbers g in
    let edges = take last prices in
    let priced = price_per_piece (priced_budget g prices budget) in
    ⊎_elim
    (λ (is : r ≡ last).
    let has : 0 < unwrap_or budget 0 = omega (arith, resource.has_capacity, at_wirelength g (unwrap_or budget 0) (capacity g r) r is) in
    at_wirelength g priced (slice_index edges r) r is ∙ per_piece g prices budget has ∙ ap (slice_index prices) (sym is))
    (λ (differs : r ≢ last).
    let number : r < last = omega (arith, resource.entry, differs) in
    at_edge g priced (slice_index edges r) r differs ∙ get_or-take last prices r 0 number)
    (cases_eq r last)

-- and it isn't 0 in a price vector
price_positive : (g : Grid) (loads : List ℕ) (scale : ℕ) (budget : Option ℕ) (r : ℕ) → IsResource g budget r
    → 1 ≤ slice_index (price_vector g loads scale budget) r
price_positive g loads scale budget r resource = omega (
  arith,
  entry-price_vector g loads scale budget r resource.entry,
  price_or_zero-positive (capacity_of g budget r) (top_of g loads scale budget) (index_of g loads scale budget r) resource.has_capacity,
)

-- a term of a sum over numbers from 0 on
term_of_sum : (f : ℕ → ℕ) (count r : ℕ) → r < count → f r ≤ sum_by f (range_with_len 0 count)
term_of_sum f count r inside =
    let rs = range_with_len 0 count in
    let inside_list : r < length rs = omega (arith, inside, length-range_with_len 0 count) in
    let place : get_or rs r 0 ≡ r = omega (arith, get_or-range_with_len 0 count r 0 inside) in
    omega (arith, get_or-le-sum_by f rs r 0 inside_list, ap f place)

-- so the capacities cost something where there is a resource
costs_something : (g : Grid) (loads : List ℕ) (scale : ℕ) (budget : Option ℕ) (prices : List ℕ) (r : ℕ)
    → prices ≡ price_vector g loads scale budget → IsResource g budget r
    → 0 < capacity_cost g (take (edge_numbers g) prices) (priced_budget g prices budget)
costs_something g loads scale budget prices r are resource =
    let edges = take (edge_numbers g) prices in
    let priced = priced_budget g prices budget in
    let price = price_at g edges priced r in
    let most = capacity_of g (most_of priced) r in
    let has_price : 1 ≤ price = omega (arith, price_is g prices budget r resource, ap (λ (ps : List ℕ). slice_index ps r) are, price_positive g loads scale budget r resource) in
    let has_capacity : 1 ≤ most = omega (arith, resource.has_capacity, ap (λ b. capacity_of g b r) (most_is g prices budget)) in
    let scaled : price * 1 ≤ price * most = mul-le-mul_left price has_capacity in
    let term : price * most ≤ capacity_cost g edges priced = term_of_sum (λ e. price_at g edges priced e * capacity_of g (most_of priced) e) (entries g) r resource.entry in
    omega (arith, has_price, scaled, term)

-- no bound is none where they cost something
some_bound : (d : Design) (prices : List ℕ) (budget : Option Budget) (bound : Option Fraction)
    → IsBoundOrNone d prices budget bound → 0 < capacity_cost d.grid prices budget → IsSome bound
some_bound d prices budget None none some = absurd (omega (arith, none, some))
some_bound d prices budget (Some f) is some = refl

-- a certificate at the prices of a vector states a bound where there is a resource
pub states_bound : (d : Design) (loads : List ℕ) (scale : ℕ) (budget : Option ℕ) (trees : List (List Piece)) (prices : List ℕ) (c : Cert)
    → prices ≡ price_vector d.grid loads scale budget → IsCertified d budget trees prices c
    → (r : ℕ) → IsResource d.grid budget r → IsSome c.bound
states_bound d loads scale budget trees prices c are certified r resource =
    let edges = take (edge_numbers d.grid) prices in
    let is : IsBoundOrNone d edges (priced_budget d.grid prices budget) c.bound = subst (λ b. IsBoundOrNone d edges b c.bound) certified.budget_is certified.bound in
    some_bound d edges (priced_budget d.grid prices budget) c.bound is (costs_something d.grid loads scale budget prices r are resource)
