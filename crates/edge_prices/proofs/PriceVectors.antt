-- The price vector of a list of loads is a price list in which each open edge has a price.
use Rattle.std.proofs.Common.{ℕ, zero, suc, ◌+◌, ◌-◌, ◌≡◌, ◌≤◌, ◌<◌, List, length, slice_index, refl, ap, inl, inr, ◌∙◌, arith, zero-add, suc-add}
use Rattle.std.specs.Prelude.{Option, ltb, unwrap_or, ◌==◌}
use Rattle.std.proofs.lemmas.Bool.{cases_lt, cond_both, cond-true, cond-false, lt-ltb, ne_eqb}
use Rattle.std.proofs.lemmas.List.{get_or_past}
use Rattle.std.proofs.lemmas.List.FromFn.{length-map-range_with_len, get_or-map-range_with_len}
use Rattle.grid_graph.specs.declared.grid.Grid.{Grid}
use Rattle.grid_graph.specs.Grids.{capacity, edge_numbers, entries}
use Rattle.edge_prices.specs.Demands.{AreAllPriced}
use Rattle.edge_prices.specs.Limits.{last_index, max_price}
use Rattle.edge_prices.specs.Prices.{price, price_by, price_or_zero}
use Rattle.edge_prices.specs.Vectors.{capacity_of, index_of, top_of, price_of, price_vector}
use Rattle.edge_prices.specs.Weights.{ArePrices, IsPriceList}

-- no price of the table is 0
price-positive : (i : ℕ) → 1 ≤ price i
unfolding price
price-positive zero = omega arith
price-positive (suc i) = omega arith

-- prices rise with their index
price-rises : (i n : ℕ) → price i ≤ price (n + i)
unfolding price
price-rises i zero = omega (arith, ap price (zero-add i))
price-rises i (suc n) = let more = price-rises i n in omega (arith, ap price (suc-add n i))

last_price : price last_index ≡ 12758
unfolding price
last_price = refl

price_by-limit : (top index : ℕ) → price_by top index ≤ max_price
price_by-limit top index =
    let below = last_index - (top - index) in
    let most : price below ≤ price (top - index - (top - index - last_index) + below) = price-rises below (top - index - (top - index - last_index)) in
    let same : top - index - (top - index - last_index) + below ≡ last_index = omega arith in
    omega (arith, ap price same, last_price)

-- a price is 0 only where there is no resource
pub price_or_zero-positive : (capacity top index : ℕ) → 0 < capacity → 1 ≤ price_or_zero capacity top index
price_or_zero-positive capacity top index some =
    let is : price_or_zero capacity top index ≡ price_by top index = cond-true (ltb 0 capacity) (price_by top index) 0 (lt-ltb 0 capacity some) in
    omega (arith, price-positive (last_index - (top - index)))

price_or_zero-limit : (capacity top index : ℕ) → price_or_zero capacity top index ≤ max_price
price_or_zero-limit capacity top index = cond_both (ltb 0 capacity) (price_by top index) 0 (λ p. p ≤ max_price) (λ _. price_by-limit top index) (λ _. omega arith)

-- an edge's entry has its capacity
pub capacity_of-edge : (g : Grid) (budget : Option ℕ) (e : ℕ) → e < edge_numbers g → capacity_of g budget e ≡ capacity g e
capacity_of-edge g budget e number = cond-false (e == edge_numbers g) (unwrap_or budget 0) (capacity g e) (ne_eqb e (edge_numbers g) (λ same. omega (arith, same)))

-- the price of an entry in the vector
pub entry-price_vector : (g : Grid) (loads : List ℕ) (scale : ℕ) (budget : Option ℕ) (r : ℕ) → r < entries g →
    slice_index (price_vector g loads scale budget) r ≡ price_of g loads scale budget r
entry-price_vector g loads scale budget r inside = get_or-map-range_with_len (price_of g loads scale budget) 0 (entries g) r r 0 inside (zero-add r)

pub length-price_vector : (g : Grid) (loads : List ℕ) (scale : ℕ) (budget : Option ℕ) → length (price_vector g loads scale budget) ≡ entries g
length-price_vector g loads scale budget = length-map-range_with_len (price_of g loads scale budget) 0 (entries g)

price_vector-within : (g : Grid) (loads : List ℕ) (scale : ℕ) (budget : Option ℕ) (r : ℕ) → slice_index (price_vector g loads scale budget) r ≤ max_price
price_vector-within g loads scale budget r = elim (cases_lt r (entries g)) [
  | inl inside ↦ omega (arith, entry-price_vector g loads scale budget r inside, price_or_zero-limit (capacity_of g budget r) (top_of g loads scale budget) (index_of g loads scale budget r))
  | inr past ↦ omega (arith, get_or_past (price_vector g loads scale budget) r 0 (omega (arith, length-price_vector g loads scale budget)))
]

price_vector-closed : (g : Grid) (loads : List ℕ) (scale : ℕ) (budget : Option ℕ) (e : ℕ) → e < edge_numbers g → capacity g e ≡ 0 → slice_index (price_vector g loads scale budget) e ≡ 0
price_vector-closed g loads scale budget e number none =
    entry-price_vector g loads scale budget e (omega arith)
    ∙ ap (λ c. price_or_zero c (top_of g loads scale budget) (index_of g loads scale budget e)) (capacity_of-edge g budget e number ∙ none)

pub price_vector-ArePrices : (g : Grid) (loads : List ℕ) (scale : ℕ) (budget : Option ℕ) → ArePrices g (price_vector g loads scale budget)
price_vector-ArePrices g loads scale budget = record {
  each = omega (arith, length-price_vector g loads scale budget);
  within = price_vector-within g loads scale budget;
  closed = price_vector-closed g loads scale budget;
}

pub price_vector-AreAllPriced : (g : Grid) (loads : List ℕ) (scale : ℕ) (budget : Option ℕ) → AreAllPriced g (price_vector g loads scale budget)
price_vector-AreAllPriced g loads scale budget e number some =
    let has : 0 < capacity_of g budget e = omega (arith, capacity_of-edge g budget e number) in
    omega (arith, entry-price_vector g loads scale budget e (omega arith), price_or_zero-positive (capacity_of g budget e) (top_of g loads scale budget) (index_of g loads scale budget e) has)

pub price_vector-IsPriceList : (g : Grid) (loads : List ℕ) (scale : ℕ) (budget : Option ℕ) → IsPriceList g (price_vector g loads scale budget)
price_vector-IsPriceList g loads scale budget = record { long = length-price_vector g loads scale budget; listed = price_vector-ArePrices g loads scale budget }
