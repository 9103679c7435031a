-- Lists in which nothing stands twice.
use Rattle.std.proofs.Common.{◌≡◌, ◌≢◌, ℕ, suc, ◌≤◌, List, [], ◌∷◌, ◌++◌, length, refl, sym, ◌∙◌, subst, ⊎_elim, arith}
use Rattle.std.specs.List.{Contains, sum_by, remove}
use Rattle.std.proofs.lemmas.List.Sums.{sum_by-cons}
use Rattle.std.proofs.lemmas.List.Sorted.{IsPermutation-remove, Contains-permutation, sum_by-IsPermutation}
use Rattle.grid_base.specs.Lists.{At, HasNoRepeats}
use Rattle.grid_base.proofs.Lists.{At-from_member, At-push_cases, Contains-rest, head_or_rest}

-- one more element, which is not there yet
pub HasNoRepeats-push : {X : Type 0} (xs : List X) (y : X) → HasNoRepeats xs → ((i : ℕ) (x : X) → At xs i x → x ≢ y) → HasNoRepeats (xs ++ y ∷ [])
HasNoRepeats-push xs y distinct other i j x at_i at_j = ⊎_elim
    (λ (p : At xs i x). ⊎_elim
    (λ (q : At xs j x). distinct i j x p q)
    (λ (q : (j ≡ length xs) × (x ≡ y)). absurd (other i x p q.1))
    (At-push_cases xs y x j at_j))
    (λ (p : (i ≡ length xs) × (x ≡ y)). ⊎_elim
    (λ (q : At xs j x). absurd (other j x q p.1))
    (λ (q : (j ≡ length xs) × (x ≡ y)). p.0 ∙ sym q.0)
    (At-push_cases xs y x j at_j))
    (At-push_cases xs y x i at_i)

-- the first element stands nowhere else
pub first_once : {X : Type 0} (x : X) (xs : List X) → HasNoRepeats (x ∷ xs) → ¬ Contains xs x
first_once x xs once again =
    let at = At-from_member xs x again in
    let same : 0 ≡ suc at.0 = once 0 (suc at.0) x refl at.2 in
    absurd (omega (arith, same))

pub rest_once : {X : Type 0} (x : X) (xs : List X) → HasNoRepeats (x ∷ xs) → HasNoRepeats xs
rest_once x xs once i j y first second = let same : suc i ≡ suc j = once (suc i) (suc j) y first second in omega (arith, same)

-- a sum over elements of a list, each taken once, is at most the sum over the list
pub sum_by-within : {X : Type 0} (f : X → ℕ) (xs ys : List X) → HasNoRepeats xs → ((x : X) → Contains xs x → Contains ys x) → sum_by f xs ≤ sum_by f ys
sum_by-within f [] ys once within = omega arith
sum_by-within f (x ∷ xs) ys once within =
    let at = within x (0, omega arith, refl) in
    let others = remove ys at.0 in
    let moved = IsPermutation-remove ys at.0 x at.1 (sym at.2) in
    let rest = sum_by-within f xs others (rest_once x xs once)
    (λ y in_rest. ⊎_elim
    (λ same. absurd (first_once x xs once (subst (Contains xs) same in_rest)))
    (λ other. other)
    (head_or_rest x others y (Contains-permutation ys (x ∷ others) y moved (within y (Contains-rest x xs y in_rest))))) in
    omega (arith, rest, sum_by-cons f x xs, sum_by-cons f x others, sum_by-IsPermutation f ys (x ∷ others) moved)
