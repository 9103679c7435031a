-- One or two entries of a sum.
use Rattle.std.proofs.Common.{◌≡◌, ℕ, zero, suc, ◌+◌, ◌<◌, ◌≤◌, subst, ⊎_elim, arith}
use Rattle.std.specs.List.{sum_by, range_with_len}
use Rattle.std.proofs.lemmas.Bool.{cases_eq}
use Rattle.std.proofs.lemmas.List.Sums.{sum_by-cons}

-- a sum is at least one of its numbers
pub one_entry : (f : ℕ → ℕ) (count first i : ℕ) → first ≤ i → i < first + count → f i ≤ sum_by f (range_with_len first count)
one_entry f zero first i from before = absurd (omega (arith, from, before))
one_entry f (suc count) first i from before =
    let whole = sum_by-cons f first (range_with_len (first + 1) count) in
    ⊎_elim
    (λ (here : first ≡ i). subst (λ (k : ℕ). f k ≤ sum_by f (range_with_len first (suc count))) here (omega (arith, whole)))
    (λ other. omega (arith, whole, one_entry f count (first + 1) i (omega (arith, from, other)) (omega (arith, before))))
    (cases_eq first i)

-- and at least two of them together
pub two_entries : (f : ℕ → ℕ) (count first i j : ℕ) → first ≤ i → i < j → j < first + count → f i + f j ≤ sum_by f (range_with_len first count)
two_entries f zero first i j from order before = absurd (omega (arith, from, order, before))
two_entries f (suc count) first i j from order before =
    let whole = sum_by-cons f first (range_with_len (first + 1) count) in
    ⊎_elim
    (λ (here : first ≡ i). subst (λ (k : ℕ). f k + f j ≤ sum_by f (range_with_len first (suc count))) here
    (omega (arith, whole, one_entry f count (first + 1) j (omega (arith, from, order)) (omega (arith, before)))))
    (λ other. omega (arith, whole, two_entries f count (first + 1) i j (omega (arith, from, other)) order (omega (arith, before))))
    (cases_eq first i)

pub last_entry : (f : ℕ → ℕ) (last : ℕ) → f last ≤ sum_by f (range_with_len 0 (last + 1))
last_entry f last = one_entry f (last + 1) 0 last (omega arith) (omega arith)
