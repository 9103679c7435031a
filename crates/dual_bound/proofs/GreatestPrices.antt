-- The greatest price of a list, price by price.
use Rattle.std.proofs.Common.{◌≡◌, ℕ, ◌+◌, ◌*◌, ◌<◌, ◌≤◌, List, None, slice_index, get_or, length, sym, ◌∙◌, ap, ⊎_elim, arith}
use Rattle.std.specs.Prelude.{max}
use Rattle.std.specs.List.{sum_by, range_with_len}
use Rattle.std.proofs.lemmas.Bool.{cases_lt, cases_eq}
use Rattle.std.proofs.lemmas.List.{get_or_past}
use Rattle.std.proofs.lemmas.List.Sums.{sum_by-le}
use Rattle.std.proofs.Math.Nat.{mul-le-mul_right, mul-zero, one-le-mul}
use Rattle.grid_graph.specs.declared.grid.Grid.{Grid}
use Rattle.grid_graph.specs.Grids.{capacity, edge_numbers}
use Rattle.edge_prices.specs.Weights.{AreEdgePrices}
use Rattle.dual_bound.specs.LeastOverflow.{IsGreatestPrice}
use Rattle.dual_bound.specs.Prices.{capacity_cost}
use Rattle.dual_bound.proofs.CapacityCosts.{capacity_cost-parts}
use Rattle.dual_bound.proofs.Entries.{one_entry}

-- the greatest of the prices before a place
pub record IsGreatestBefore (prices : List ℕ) (place price : ℕ) : Type 0 where
  pub most : (r : ℕ) → r < place → slice_index prices r ≤ price
  pub attained : 0 < price → (r : ℕ) × (slice_index prices r ≡ price)

pub greatest_more : (prices : List ℕ) (place price more : ℕ) → IsGreatestBefore prices place price → more ≡ max price (slice_index prices place)
    → IsGreatestBefore prices (place + 1) more
greatest_more prices place price more before is = record {
  most = λ r below. ⊎_elim
      (λ (here : r ≡ place). omega (arith, ap (slice_index prices) here, is))
      (λ other. omega (arith, is, before.most r (omega (arith, below, other))))
      (cases_eq r place);
  attained = λ some. ⊎_elim
      (λ (less : price < slice_index prices place). (place, omega (arith, is, less)))
      (λ (not_less : slice_index prices place ≤ price).
      let same : more ≡ price = omega (arith, is, not_less) in
      let old = before.attained (omega (arith, same, some)) in
      (old.0, old.1 ∙ sym same))
      (cases_lt price (slice_index prices place));
}

pub greatest_of_all : (prices : List ℕ) (place price : ℕ) → length prices ≤ place → IsGreatestBefore prices place price → IsGreatestPrice prices price
greatest_of_all prices place price all before = record {
  most = λ r. ⊎_elim
      (λ (inside : r < place). before.most r inside)
      (λ (past : place ≤ r). omega (arith, get_or_past prices r 0 (omega (arith, all, past))))
      (cases_lt r place);
  attained = before.attained;
}

-- ---- prices and what the capacities cost

-- an edge has no price where all capacities together cost nothing
free_edge : (g : Grid) (prices : List ℕ) (r : ℕ) → AreEdgePrices g prices → capacity_cost g prices None ≡ 0 → r < edge_numbers g → slice_index prices r ≤ 0
free_edge g prices r are none inside =
    let each : ℕ → ℕ = λ e. slice_index prices e * capacity g e in
    let at_most : each r ≤ sum_by each (range_with_len 0 (edge_numbers g)) = one_entry each (edge_numbers g) 0 r (omega arith) (omega (arith, inside)) in
    ⊎_elim
    (λ (some : 0 < slice_index prices r). ⊎_elim
    (λ (open_edge : 0 < capacity g r). absurd (omega (arith, at_most, none, capacity_cost-parts g prices None, one-le-mul {a = slice_index prices r} {b = capacity g r} some open_edge)))
    (λ (closed : capacity g r ≤ 0). omega (arith, are.listed.closed r inside (omega (arith, closed))))
    (cases_lt 0 (capacity g r)))
    (λ (free : slice_index prices r ≤ 0). free)
    (cases_lt 0 (slice_index prices r))

-- where all prices are 0 the capacities cost nothing
pub no_prices-no_cost : (g : Grid) (prices : List ℕ) → ((r : ℕ) → slice_index prices r ≤ 0) → capacity_cost g prices None ≡ 0
no_prices-no_cost g prices none =
    let edges = range_with_len 0 (edge_numbers g) in
    let each : ℕ → ℕ = λ r. slice_index prices r * capacity g r in
    let at_most = sum_by-le each 0 edges (λ k d inside. omega (arith, mul-le-mul_right (capacity g (get_or edges k d)) (none (get_or edges k d)))) in
    omega (arith, capacity_cost-parts g prices None, at_most, mul-zero (length edges))

-- and where they cost nothing all prices are 0
pub no_cost-no_prices : (g : Grid) (prices : List ℕ) → AreEdgePrices g prices → capacity_cost g prices None ≡ 0 → IsGreatestPrice prices 0
no_cost-no_prices g prices are none = record {
  most = λ r. ⊎_elim
      (λ (inside : r < edge_numbers g). free_edge g prices r are none inside)
      (λ (past : edge_numbers g ≤ r). omega (arith, get_or_past prices r 0 (omega (arith, are.long, past))))
      (cases_lt r (edge_numbers g));
  attained = λ some. absurd (omega (arith, some));
}
