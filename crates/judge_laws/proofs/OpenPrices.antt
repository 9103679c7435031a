-- The prices of the open edges, read back as those of all edges.
use Rattle.std.proofs.Common.{◌≡◌, ℕ, zero, suc, ◌+◌, ◌<◌, ◌≤◌, Bool, true, false, cond, ltb, List, ◌∷◌, length, map, take, get_or, All, refl, sym, ◌∙◌, ap, ⊎_elim, arith, zero-add}
use Rattle.std.specs.Prelude.{filter, slice_index}
use Rattle.std.specs.List.{count_by, range_with_len}
use Rattle.std.proofs.lemmas.Bool.{cases_Bool, cases_lt, lt-ltb}
use Rattle.std.proofs.lemmas.List.{ext_get_or, get_or-take, length-map, length-take}
use Rattle.std.proofs.Math.Seq.{take-length}
use Rattle.std.proofs.lemmas.List.Elements.{All-map}
use Rattle.std.proofs.lemmas.List.FromFn.{length-map-range_with_len, get_or-map-range_with_len}
use Rattle.std.proofs.lemmas.List.Sums.{length-filter, sum_by-cons}
use Rattle.edge_prices.specs.Limits.{max_price}
use Rattle.edge_prices.specs.Weights.{is_open, AreEdgePrices, ArePrices}
use Rattle.grid_graph.specs.declared.grid.Grid.{Grid}
use Rattle.grid_graph.specs.Grids.{capacity, edge_numbers}
use Rattle.route_judge.specs.Counts.{listed_price, listed_prices, open_below, open_count}
use Rattle.judge_laws.specs.OpenPrices.{open_edges, open_prices}

kept_first : (p : ℕ → Bool) (f : ℕ → ℕ) (e : ℕ) (rest : List ℕ) → p e ≡ true → map f (filter p (e ∷ rest)) ≡ f e ∷ map f (filter p rest)
kept_first p f e rest is = rw is refl

left_first : (p : ℕ → Bool) (f : ℕ → ℕ) (e : ℕ) (rest : List ℕ) → p e ≡ false → map f (filter p (e ∷ rest)) ≡ map f (filter p rest)
left_first p f e rest is = rw is refl

-- a number that passes a test stands behind as many as pass it below
place_of_kept : (p : ℕ → Bool) (f : ℕ → ℕ) (n first k : ℕ) → k < n → p (first + k) ≡ true
    → get_or (map f (filter p (range_with_len first n))) (count_by p (range_with_len first k)) 0 ≡ f (first + k)
place_of_kept p f zero first k inside is = absurd (omega (arith, inside))
place_of_kept p f (suc n) first zero inside is =
    let here : first + 0 ≡ first = omega arith in
    ap (λ xs. get_or xs 0 0) (kept_first p f first (range_with_len (first + 1) n) (ap p (sym here) ∙ is)) ∙ ap f (sym here)
place_of_kept p f (suc n) first (suc k) inside is =
    let place : first + 1 + k ≡ first + suc k = omega arith in
    let rest = place_of_kept p f n (first + 1) k (omega (arith, inside)) (ap p place ∙ is) in
    let below = count_by p (range_with_len (first + 1) k) in
    let behind = map f (filter p (range_with_len (first + 1) n)) in
    let whole : count_by p (range_with_len first (suc k)) ≡ cond (p first) 1 0 + below = sum_by-cons (λ e. cond (p e) 1 0) first (range_with_len (first + 1) k) in
    ⊎_elim
    (λ (kept : p first ≡ true).
    let one_more : count_by p (range_with_len first (suc k)) ≡ suc below = omega (arith, whole, ap {B = ℕ} (λ (b : Bool). cond b 1 0) kept) in
    ap (λ xs. get_or xs (count_by p (range_with_len first (suc k))) 0) (kept_first p f first (range_with_len (first + 1) n) kept)
    ∙ ap (λ i. get_or (f first ∷ behind) i 0) one_more ∙ rest ∙ ap f place)
    (λ (left : p first ≡ false).
    let as_before : count_by p (range_with_len first (suc k)) ≡ below = omega (arith, whole, ap {B = ℕ} (λ (b : Bool). cond b 1 0) left) in
    ap (λ xs. get_or xs (count_by p (range_with_len first (suc k))) 0) (left_first p f first (range_with_len (first + 1) n) left)
    ∙ ap (λ i. get_or behind i 0) as_before ∙ rest ∙ ap f place)
    (cases_Bool (p first))

listed_at : (g : Grid) (prices : List ℕ) (e : ℕ) → ArePrices g prices → e < edge_numbers g → listed_price g (open_prices g prices) e ≡ slice_index prices e
listed_at g prices e are inside =
    ⊎_elim
    (λ (positive : 0 < capacity g e).
    let is : is_open g e ≡ true = lt-ltb 0 (capacity g e) positive in
    ap (λ b. cond b (slice_index (open_prices g prices) (open_below g e)) 0) is
    ∙ place_of_kept (is_open g) (slice_index prices) (edge_numbers g) 0 e inside (ap (is_open g) (zero-add e) ∙ is) ∙ ap (slice_index prices) (zero-add e))
    (λ (at_most : capacity g e ≤ 0).
    let none : capacity g e ≡ 0 = omega (arith, at_most) in
    ap (λ c. cond (ltb 0 c) (slice_index (open_prices g prices) (open_below g e)) 0) none ∙ sym (are.closed e inside none))
    (cases_lt 0 (capacity g e))

-- what is listed are the prices of the edges
pub listed_back : (g : Grid) (prices : List ℕ) → ArePrices g prices → listed_prices g (open_prices g prices) ≡ take (edge_numbers g) prices
listed_back g prices are =
    let edges = edge_numbers g in
    let listed = open_prices g prices in
    let long : length (listed_prices g listed) ≡ edges = length-map-range_with_len (listed_price g listed) 0 edges in
    let front : length (take edges prices) ≡ edges = omega (arith, length-take edges prices, are.each) in
    ext_get_or 0 (listed_prices g listed) (take edges prices) (long ∙ sym front) (λ i below.
    let inside : i < edges = omega (arith, below, long) in
    get_or-map-range_with_len (listed_price g listed) 0 edges i i 0 inside (zero-add i) ∙ listed_at g prices i are inside
    ∙ sym (get_or-take edges prices i 0 inside))

-- and all of the list, where it has no others
pub listed_whole : (g : Grid) (prices : List ℕ) → AreEdgePrices g prices → listed_prices g (open_prices g prices) ≡ prices
listed_whole g prices are =
    listed_back g prices are.listed ∙ ap (λ (n : ℕ). take n prices) (sym are.long) ∙ take-length prices

-- there are as many as open edges, and each is within the limit
pub listed_count : (g : Grid) (prices : List ℕ) → length (open_prices g prices) ≡ open_count g
listed_count g prices = length-map (open_edges g) (slice_index prices) ∙ length-filter (is_open g) (range_with_len 0 (edge_numbers g))

pub listed_within : (g : Grid) (prices : List ℕ) → ArePrices g prices → All (λ (price : ℕ). price ≤ max_price) (open_prices g prices)
listed_within g prices are = All-map (λ (price : ℕ). price ≤ max_price) (slice_index prices) (open_edges g) (λ k e below. are.within (get_or (open_edges g) k e))
