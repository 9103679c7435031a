-- What all capacities cost, edge by edge and then the wirelength.
use Rattle.std.proofs.Common.{◌≡◌, ◌≢◌, ℕ, zero, suc, ◌+◌, ◌*◌, ◌<◌, List, Option, unwrap_or, slice_index, refl, ◌∙◌, ap, arith, zero-add}
use Rattle.std.specs.List.{sum_by, range_with_len}
use Rattle.std.proofs.lemmas.List.Sums.{sum_by-cons}
use Rattle.grid_graph.specs.declared.grid.Grid.{Grid}
use Rattle.grid_graph.specs.Grids.{capacity, edge_numbers}
use Rattle.edge_prices.specs.Vectors.{capacity_of}
use Rattle.edge_prices.specs.declared.budget.Budget.{Budget}
use Rattle.edge_prices.specs.Budgets.{most_of, price_per_piece}
use Rattle.dual_bound.specs.Prices.{price_at, capacity_cost}
use Rattle.dual_bound.proofs.Closed.{at_edge, at_wirelength}

-- a sum over one number more
pub sum_by-range-more : (f : ℕ → ℕ) (first count : ℕ) → sum_by f (range_with_len first (suc count)) ≡ sum_by f (range_with_len first count) + f (first + count)
sum_by-range-more f first zero = let place : first + 0 ≡ first = omega arith in omega (arith, ap f place)
sum_by-range-more f first (suc count) =
    let place : first + 1 + count ≡ first + suc count = omega arith in
    omega (
      arith,
      sum_by-cons f first (range_with_len (first + 1) (suc count)),
      sum_by-cons f first (range_with_len (first + 1) count),
      sum_by-range-more f (first + 1) count,
      ap f place,
    )

pub sum_by-range-same : (f h : ℕ → ℕ) (count first : ℕ) → ((r : ℕ) → r < first + count → f r ≡ h r) → sum_by f (range_with_len first count) ≡ sum_by h (range_with_len first count)
sum_by-range-same f h zero first same = refl
sum_by-range-same f h (suc count) first same = omega (
  arith,
  sum_by-cons f first (range_with_len (first + 1) count),
  sum_by-cons h first (range_with_len (first + 1) count),
  same first (omega arith),
  sum_by-range-same f h count (first + 1) (λ r inside. same r (omega (arith, inside))),
)

pub capacity_cost-parts : (g : Grid) (prices : List ℕ) (budget : Option Budget)
    → capacity_cost g prices budget ≡ price_per_piece budget * unwrap_or (most_of budget) 0 + sum_by (λ r. slice_index prices r * capacity g r) (range_with_len 0 (edge_numbers g))
capacity_cost-parts g prices budget =
    let last = edge_numbers g in
    let f : ℕ → ℕ = λ r. price_at g prices budget r * capacity_of g (most_of budget) r in
    let h : ℕ → ℕ = λ r. slice_index prices r * capacity g r in
    let wire : f last ≡ price_per_piece budget * unwrap_or (most_of budget) 0 =
    ap (λ x. x * capacity_of g (most_of budget) last) (at_wirelength g (price_per_piece budget) (slice_index prices last) last refl)
    ∙ ap (λ x. price_per_piece budget * x) (at_wirelength g (unwrap_or (most_of budget) 0) (capacity g last) last refl) in
    let edge : (r : ℕ) → r < 0 + last → f r ≡ h r = λ r inside.
    let differs : r ≢ last = λ same. absurd (omega (arith, inside, same)) in
    ap (λ x. x * capacity_of g (most_of budget) r) (at_edge g (price_per_piece budget) (slice_index prices r) r differs)
    ∙ ap (λ x. slice_index prices r * x) (at_edge g (unwrap_or (most_of budget) 0) (capacity g r) r differs) in
    let place : 0 + last ≡ last = zero-add last in
    let one_more : last + 1 ≡ suc last = omega arith in
    let whole : capacity_cost g prices budget ≡ sum_by f (range_with_len 0 (suc last)) = ap (λ n. sum_by f (range_with_len 0 n)) one_more in
    let parts : sum_by f (range_with_len 0 (suc last)) ≡ price_per_piece budget * unwrap_or (most_of budget) 0 + sum_by h (range_with_len 0 last) =
    omega (arith, sum_by-range-more f 0 last, ap f place, wire, sum_by-range-same f h last 0 edge) in
    whole ∙ parts
