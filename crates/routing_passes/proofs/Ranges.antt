-- Lists that are made along a range of numbers, and functions that change at a number.
use Rattle.std.proofs.Common.{◌≡◌, ℕ, zero, suc, ◌+◌, ◌≤◌, ◌<◌, List, ◌++◌, cond, ltb, refl, sym, ◌∙◌, ap, subst, arith, ⊎_elim}
use Rattle.std.specs.List.{flat_map, range_with_len}
use Rattle.std.proofs.lemmas.Bool.{cases_lt, cond_below, cond_above}
use Rattle.std.proofs.lemmas.Grind.{flat_map-append}
use Rattle.std.proofs.lemmas.List.{append-nil}

-- a range, and the range behind it
pub range-append : (a n m : ℕ) → range_with_len a n ++ range_with_len (a + n) m ≡ range_with_len a (n + m)
range-append a zero m = ap (λ b. range_with_len b m) (omega arith) ∙ ap (λ k. range_with_len a k) (omega arith)
range-append a (suc n) m =
    let inner : a + suc n ≡ (a + 1) + n = omega arith in
    let long : suc n + m ≡ suc (n + m) = omega arith in
    rw (long, inner, range-append (a + 1) n m)

-- what f gives along a range, and along the range behind it
pub flat_map-split : {A : Type 0} (f : ℕ → List A) (a n m : ℕ)
    → flat_map f (range_with_len a (n + m)) ≡ flat_map f (range_with_len a n) ++ flat_map f (range_with_len (a + n) m)
flat_map-split f a n m = ap (flat_map f) (sym (range-append a n m))
    ∙ flat_map-append f (range_with_len a n) (range_with_len (a + n) m)

-- along a range that is longer by one
pub flat_map-more : {A : Type 0} (f : ℕ → List A) (a n : ℕ)
    → flat_map f (range_with_len a (n + 1)) ≡ flat_map f (range_with_len a n) ++ f (a + n)
flat_map-more f a n = flat_map-split f a n 1 ∙ ap (λ last. flat_map f (range_with_len a n) ++ last) (append-nil (f (a + n)))

-- two functions that agree along the range
pub flat_map-same : {A : Type 0} (f g : ℕ → List A) (a n : ℕ) → ((i : ℕ) → a ≤ i → i < a + n → f i ≡ g i)
    → flat_map f (range_with_len a n) ≡ flat_map g (range_with_len a n)
flat_map-same f g a zero same = refl
flat_map-same f g a (suc n) same =
    ap (λ first. first ++ flat_map f (range_with_len (a + 1) n)) (same a (omega arith) (omega arith))
    ∙ ap (λ rest. g a ++ rest) (flat_map-same f g (a + 1) n (λ i low high. same i (omega (arith, low)) (omega (arith, high))))

-- f below a number, and g from there on
pub until : {X : Type 0} → ℕ → (ℕ → X) → (ℕ → X) → ℕ → X
until k f g i = cond (ltb i k) (f i) (g i)

pub until-below : {X : Type 0} (k : ℕ) (f g : ℕ → X) (i : ℕ) → i < k → until k f g i ≡ f i
unfolding until
until-below k f g i low = sym (cond_below i k (f i) (g i) low)

pub until-from : {X : Type 0} (k : ℕ) (f g : ℕ → X) (i : ℕ) → k ≤ i → until k f g i ≡ g i
unfolding until
until-from k f g i high = sym (cond_above i k (f i) (g i) (g i) high refl)

-- what holds of both holds of it
pub until-all : {X : Type 0} (P : X → Type 0) (k : ℕ) (f g : ℕ → X) → ((i : ℕ) → P (f i)) → ((i : ℕ) → P (g i)) → (i : ℕ)
    → P (until k f g i)
until-all P k f g first second i =
    ⊎_elim
    (λ (low : i < k). subst P (sym (until-below k f g i low)) (first i))
    (λ (high : k ≤ i). subst P (sym (until-from k f g i high)) (second i))
    (cases_lt i k)
