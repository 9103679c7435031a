-- Sums and differences of lists, entry by entry.
use Rattle.std.proofs.Common.{◌≡◌, ◌<◌, ◌≤◌, ℕ, zero, suc, ◌+◌, ◌-◌, List, [], ◌∷◌, length, replicate, get_or, refl, ap, ⊎_elim, arith}
use Rattle.std.proofs.lemmas.Bool.{cases_lt}
use Rattle.std.proofs.lemmas.List.{get_or_past, get_or-replicate, length-replicate}
use Rattle.load_core.specs.Entries.{plus, minus}

pub get_or-minus : (xs ys : List ℕ) (k : ℕ) → get_or (minus xs ys) k 0 ≡ get_or xs k 0 - get_or ys k 0
get_or-minus [] ys k = omega arith
get_or-minus (x ∷ xs) [] k = omega arith
get_or-minus (x ∷ xs) (y ∷ ys) zero = refl
get_or-minus (x ∷ xs) (y ∷ ys) (suc k) = get_or-minus xs ys k

pub get_or-plus : (xs ys : List ℕ) (k : ℕ) → get_or (plus xs ys) k 0 ≡ get_or xs k 0 + get_or ys k 0
get_or-plus [] ys k = omega arith
get_or-plus (x ∷ xs) [] k = omega arith
get_or-plus (x ∷ xs) (y ∷ ys) zero = refl
get_or-plus (x ∷ xs) (y ∷ ys) (suc k) = get_or-plus xs ys k

pub length-minus : (xs ys : List ℕ) → length (minus xs ys) ≡ length xs
length-minus [] ys = refl
length-minus (x ∷ xs) [] = refl
length-minus (x ∷ xs) (y ∷ ys) = ap suc (length-minus xs ys)

pub length-plus : (xs ys : List ℕ) → length xs ≡ length ys → length (plus xs ys) ≡ length xs
length-plus [] ys e = omega arith
length-plus (x ∷ xs) [] e = refl
length-plus (x ∷ xs) (y ∷ ys) e = let same : length xs ≡ length ys = omega arith in let rest = length-plus xs ys same in omega arith

pub zeros : (n k : ℕ) → get_or {A = ℕ} (replicate n 0) k 0 ≡ 0
zeros n k = ⊎_elim
    (λ (low : k < n). get_or-replicate n k 0 0 low)
    (λ (past : n ≤ k). get_or_past (replicate n 0) k 0 (omega (arith, length-replicate {A = ℕ} n 0)))
    (cases_lt k n)
