-- The open edges as they are counted, and the prices that are listed for them.
use Rattle.std.proofs.Common.{◌≡◌, ℕ, suc, ◌+◌, ◌<◌, ◌≤◌, Bool, true, false, cond, List, [], ◌∷◌, ◌++◌, length, map, slice_index, All, refl, sym, ◌∙◌, ap, subst, ⊎_elim, arith, zero-add, ltb}
use Rattle.std.specs.Int.{from_bool}
use Rattle.std.specs.List.{range_with_len}
use Rattle.std.proofs.lemmas.Bool.{cases_Bool, cases_lt}
use Rattle.std.proofs.lemmas.List.{get_or_past}
use Rattle.std.proofs.lemmas.List.FromFn.{length-map-range_with_len, get_or-map-range_with_len, map-range_with_len_more}
use Rattle.grid_graph.specs.declared.grid.Grid.{Grid}
use Rattle.grid_graph.specs.Grids.{edge_numbers}
use Rattle.edge_prices.specs.Limits.{max_price}
use Rattle.edge_prices.specs.Weights.{AreEdgePrices, is_open}
use Rattle.dual_bound.proofs.CapacityCosts.{sum_by-range-more}
use Rattle.route_judge.specs.Counts.{open_below, listed_price, listed_prices}

-- a test as a number
pub as_number : (b : Bool) → from_bool b ≡ cond b 1 0
as_number true = refl
as_number false = refl

pub at_most_one : (b : Bool) → from_bool b ≤ 1
at_most_one true = omega arith
at_most_one false = omega arith

-- one more edge is counted
pub open_below-more : (g : Grid) (n : ℕ) → open_below g (n + 1) ≡ open_below g n + cond (is_open g n) 1 0
open_below-more g n =
    let one_more : suc n ≡ n + 1 = omega arith in
    sym (ap (open_below g) one_more) ∙ sum_by-range-more (λ e. cond (is_open g e) 1 0) 0 n ∙ ap (λ e. open_below g n + cond (is_open g e) 1 0) (zero-add n)

-- and priced
pub listed_more : (g : Grid) (listed : List ℕ) (n : ℕ) → map (listed_price g listed) (range_with_len 0 (n + 1)) ≡ map (listed_price g listed) (range_with_len 0 n) ++ listed_price g listed n ∷ []
listed_more g listed n = map-range_with_len_more (listed_price g listed) 0 n n (zero-add n)

small_number : (listed : List ℕ) (i : ℕ) → All (λ price. price ≤ max_price) listed → slice_index listed i ≤ max_price
small_number listed i small =
    ⊎_elim
    (λ (inside : i < length listed). small i 0 inside)
    (λ (past : length listed ≤ i). rw (get_or_past listed i 0 past) (omega arith))
    (cases_lt i (length listed))

small_price : (g : Grid) (listed : List ℕ) (e : ℕ) → All (λ price. price ≤ max_price) listed → listed_price g listed e ≤ max_price
small_price g listed e small =
    ⊎_elim
    (λ (open_edge : is_open g e ≡ true). rw open_edge (small_number listed (open_below g e) small))
    (λ (closed : is_open g e ≡ false). rw closed (omega arith))
    (cases_Bool (is_open g e))

price_at_edge : (g : Grid) (listed : List ℕ) (e : ℕ) → e < edge_numbers g → slice_index (listed_prices g listed) e ≡ listed_price g listed e
price_at_edge g listed e inside = get_or-map-range_with_len (listed_price g listed) 0 (edge_numbers g) e e 0 inside (zero-add e)

-- these are prices of the edges: within the limit, and 0 where an edge isn't open
pub listed_are_prices : (g : Grid) (listed : List ℕ) → All (λ price. price ≤ max_price) listed → AreEdgePrices g (listed_prices g listed)
listed_are_prices g listed small = record {
  long = length-map-range_with_len (listed_price g listed) 0 (edge_numbers g);
  listed = record {
    each = omega (arith, length-map-range_with_len (listed_price g listed) 0 (edge_numbers g));
    within = λ r. ⊎_elim
        (λ (inside : r < edge_numbers g). subst (λ n. n ≤ max_price) (sym (price_at_edge g listed r inside)) (small_price g listed r small))
        (λ (past : edge_numbers g ≤ r).
        let beyond : length (listed_prices g listed) ≤ r = omega (arith, past, length-map-range_with_len (listed_price g listed) 0 (edge_numbers g)) in
        rw (get_or_past (listed_prices g listed) r 0 beyond) (omega arith))
        (cases_lt r (edge_numbers g));
    closed = λ e inside none. price_at_edge g listed e inside ∙ ap (λ c. cond (ltb 0 c) (slice_index listed (open_below g e)) 0) none;
  };
}
