-- What loads cost: sums over entries of price and load.
use Rattle.std.proofs.Common.{◌≡◌, ℕ, zero, suc, ◌+◌, ◌*◌, ◌<◌, ◌≤◌, ◌⊎◌, List, [], ◌∷◌, refl, subst, inl, inr, ⊎_elim, arith}
use Rattle.std.specs.List.{sum_by, range_with_len}
use Rattle.std.proofs.lemmas.Bool.{cases_lt}
use Rattle.std.proofs.lemmas.List.Sums.{sum_by-cons, sum_by-le-sum_by}
use Rattle.std.proofs.Math.Nat.{mul-le-mul_left, mul-zero}

-- the sum over some entries of price and load
abbrev pub priced : (ℕ → ℕ) → (ℕ → ℕ) → List ℕ → ℕ
priced price load rs = sum_by (λ r. price r * load r) rs

-- loads that add up cost what they cost together
pub priced-add : (price one other both : ℕ → ℕ) (rs : List ℕ) → ((r : ℕ) → both r ≡ one r + other r) → priced price both rs ≡ priced price one rs + priced price other rs
priced-add price one other both [] adds = refl
priced-add price one other both (r ∷ rs) adds =
    let here : price r * both r ≡ price r * one r + price r * other r = rw (adds r) (omega arith) in
    omega (arith, here, sum_by-cons (λ r. price r * both r) r rs, sum_by-cons (λ r. price r * one r) r rs, sum_by-cons (λ r. price r * other r) r rs, priced-add price one other both rs adds)

-- greater loads cost no less
pub priced-le : (price one other : ℕ → ℕ) (rs : List ℕ) → ((r : ℕ) → one r ≤ other r) → priced price one rs ≤ priced price other rs
priced-le price one other rs below = sum_by-le-sum_by (λ r. price r * one r) (λ r. price r * other r) rs (λ r. mul-le-mul_left (price r) (below r))

-- multiples of loads cost the multiple
pub priced-times : (price load : ℕ → ℕ) (k : ℕ) (rs : List ℕ) → priced price (λ r. k * load r) rs ≡ k * priced price load rs
priced-times price load k [] = omega (arith, mul-zero k)
priced-times price load k (r ∷ rs) =
    let turned : price r * (k * load r) ≡ k * (price r * load r) = omega arith in
    let split : k * (price r * load r + priced price load rs) ≡ k * (price r * load r) + k * priced price load rs = omega arith in
    let whole : k * priced price load (r ∷ rs) ≡ k * (price r * load r + priced price load rs) = rw (sum_by-cons (λ r. price r * load r) r rs) refl in
    omega (arith, turned, split, whole, sum_by-cons (λ r. price r * (k * load r)) r rs, priced-times price load k rs)

-- some entries cost less at one number each than at another; strictly so where capacities cost something
pub record CostsLess (price capacity below above : ℕ → ℕ) (rs : List ℕ) : Type 0 where
  pub at_most : priced price below rs ≤ priced price above rs
  pub less : 0 < priced price capacity rs → priced price below rs < priced price above rs

-- an entry with a capacity at which the second number is at most the first
pub record IsFull (capacity below above : ℕ → ℕ) (last r : ℕ) : Type 0 where
  pub inside : r < last
  pub has_capacity : 0 < capacity r
  pub full : above r ≤ below r

strictly : (price capacity below above : ℕ) → below < above → 0 < price * capacity → price * below < price * above
strictly zero capacity below above less some = absurd (omega arith)
strictly (suc price) capacity below above less some =
    let most : suc price * (below + 1) ≤ suc price * above = mul-le-mul_left (suc price) (omega (arith, less)) in
    omega (arith, most)

-- one entry more
costs_less_more : (price capacity below above : ℕ → ℕ) (r : ℕ) (rs : List ℕ) → price r * below r ≤ price r * above r
    → (0 < price r * capacity r → price r * below r < price r * above r) → CostsLess price capacity below above rs → CostsLess price capacity below above (r ∷ rs)
costs_less_more price capacity below above r rs here strict rest =
    let low = sum_by-cons (λ r. price r * below r) r rs in
    let high = sum_by-cons (λ r. price r * above r) r rs in
    record {
      at_most = omega (arith, low, high, here, rest.at_most);
      less = λ some. ⊎_elim
          (λ behind. omega (arith, low, high, here, rest.less behind))
          (λ none. omega (arith, low, high, strict (omega (arith, some, none, sum_by-cons (λ r. price r * capacity r) r rs)), rest.at_most))
          (cases_lt 0 (priced price capacity rs));
    }

-- from `first` on an entry is full, or all cost less; what has no capacity has no price
pub full_or_less : (price capacity below above : ℕ → ℕ) (count first : ℕ) → ((r : ℕ) → r < first + count → capacity r ≡ 0 → price r ≡ 0)
    → ((r : ℕ) × IsFull capacity below above (first + count) r) ⊎ CostsLess price capacity below above (range_with_len first count)
full_or_less price capacity below above zero first closed = inr (record { at_most = omega arith; less = λ some. absurd (omega (arith, some)) })
full_or_less price capacity below above (suc count) first closed =
    let rs = range_with_len (first + 1) count in
    let rest = full_or_less price capacity below above count (first + 1) (λ r inside none. closed r (omega (arith, inside)) none) in
    ⊎_elim
    (λ found. inl (found.0, record { inside = omega (arith, found.1.inside); has_capacity = found.1.has_capacity; full = found.1.full }))
    (λ behind. ⊎_elim
    (λ less. inr (costs_less_more price capacity below above first rs (mul-le-mul_left (price first) (omega (arith, less)))
    (λ some. strictly (price first) (capacity first) (below first) (above first) less some) behind))
    (λ more. ⊎_elim
    (λ some. inl (first, record { inside = omega arith; has_capacity = some; full = more }))
    (λ none.
    let free : price first ≡ 0 = closed first (omega arith) (omega (arith, none)) in
    inr (costs_less_more price capacity below above first rs (rw free (omega arith)) (λ some. let nothing : 0 < 0 * capacity first = subst (λ (p : ℕ). 0 < p * capacity first) free some in absurd (omega (arith, nothing))) behind))
    (cases_lt 0 (capacity first)))
    (cases_lt (below first) (above first)))
    rest
