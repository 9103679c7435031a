-- Lists of which some numbers are kept at even steps.
use Rattle.std.proofs.Common.{◌≡◌, ℕ, ◌+◌, ◌*◌, ◌/◌, ◌%◌, ◌<◌, ◌≤◌, List, take, drop, length, set, get_or, sym, ◌∙◌, ap, subst, ⊎_elim, arith, get_or-set_other, length-set}
use Rattle.std.specs.Prelude.{Contains}
use Rattle.std.proofs.Math.Nat.{div-le_of_le-mul, mul-add-div_right, mul_assoc, mul-add}
use Rattle.std.proofs.lemmas.Bool.{cases_eq}
use Rattle.std.proofs.lemmas.Grind.{get_or-set_at}
use Rattle.std.proofs.lemmas.List.{take-append-drop}
use Rattle.std.proofs.lemmas.List.Elements.{Contains-append_left}
use Rattle.std.proofs.lemmas.Nat.{mul-le}

-- a product by a quotient and a remainder
pub taken_apart : (step last : ℕ) → step * (last / 7) + step * (last % 7) / 7 ≡ step * last / 7
taken_apart step last =
    let q = last / 7 in
    let r = last % 7 in
    let whole : q * 7 + r ≡ last = omega arith in
    sym (mul-add-div_right (omega arith) (step * q) (step * r))
    ∙ ap (λ n. n / 7) (ap (λ n. n + step * r) (mul_assoc step q 7) ∙ sym (mul-add step (q * 7) r) ∙ ap (λ n. step * n) whole)

-- a step ends within the list
pub step-within : (step last : ℕ) → step < 8 → step * last / 7 ≤ last
step-within step last low = div-le_of_le-mul 7 (mul-le step last 7 last (omega (arith, low)) (omega arith))

-- a number of the list in place of another
pub set_within : (xs : List ℕ) (i j x n : ℕ) → j < length xs → x ≡ get_or xs j x → Contains (set xs i x) n → Contains xs n
set_within xs i j x n inside is (k, within, at) = ⊎_elim
    (λ (here : k ≡ i).
    let same : x ≡ n = sym (get_or-set_at xs i k x n here (omega (arith, within, length-set xs i x, here))) ∙ at in
    (j, inside, sym (subst (λ y. y ≡ get_or xs j y) same is)))
    (λ other. (k, omega (arith, within, length-set xs i x), sym (get_or-set_other xs i k x n other) ∙ at))
    (cases_eq k i)

-- the first ones of a list
pub take_within : (count : ℕ) (xs : List ℕ) (n : ℕ) → Contains (take count xs) n → Contains xs n
take_within count xs n at = subst (λ ys. Contains ys n) (take-append-drop count xs) (Contains-append_left (take count xs) (drop count xs) n at)
