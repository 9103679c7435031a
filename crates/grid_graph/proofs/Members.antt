-- Members of lists, and lists in which nothing stands twice.
use Rattle.std.proofs.Common.{ℕ, zero, suc, ◌+◌, ◌≡◌, ◌≤◌, ◌<◌, ◌⊎◌, Bool, true, false, cond, List, [], ◌∷◌, ◌++◌, map, length, get_or, refl, sym, ap, inl, inr, ◌∙◌, arith}
use Rattle.std.specs.Prelude.{slice_get, Some}
use Rattle.std.proofs.lemmas.Bool.{cases_eq}
use Rattle.std.specs.List.{Contains, filter, range_with_len}
use Rattle.grid_base.specs.Lists.{HasNoRepeats}

-- x is one of the list, by recursion
abbrev pub In : {X : Type 0} → List X → X → Type 0
In [] x = ⊥
In (y ∷ ys) x = (y ≡ x) ⊎ In ys x

pub In-Contains : {X : Type 0} (xs : List X) (x : X) → In xs x → Contains xs x
In-Contains (y ∷ ys) x (inl here) = (0, omega arith, here)
In-Contains (y ∷ ys) x (inr later) = let found = In-Contains ys x later in (suc found.0, omega (arith, found.1), found.2)
In-Contains [] x none = absurd none

in_at : {X : Type 0} (xs : List X) (k : ℕ) (x : X) → k < length xs → get_or xs k x ≡ x → In xs x
in_at (y ∷ ys) zero x below is = inl is
in_at (y ∷ ys) (suc k) x below is = inr (in_at ys k x (omega arith) is)
in_at [] k x below is = absurd (omega arith)

pub Contains-In : {X : Type 0} (xs : List X) (x : X) → Contains xs x → In xs x
Contains-In xs x found = in_at xs found.0 x found.1 found.2

pub In-map : {X Y : Type 0} (f : X → Y) (xs : List X) (x : X) → In xs x → In (map f xs) (f x)
In-map f (y ∷ ys) x (inl here) = inl (ap f here)
In-map f (y ∷ ys) x (inr later) = inr (In-map f ys x later)
In-map f [] x none = none

pub In-from_map : {X Y : Type 0} (f : X → Y) (xs : List X) (y : Y) → In (map f xs) y → (x : X) × In xs x × (f x ≡ y)
In-from_map f (z ∷ zs) y (inl here) = (z, inl refl, here)
In-from_map f (z ∷ zs) y (inr later) = let found = In-from_map f zs y later in (found.0, inr found.1, found.2)
In-from_map f [] y none = absurd none

pub In-filter : {X : Type 0} (t : X → Bool) (xs : List X) (x : X) → In xs x → t x ≡ true → In (filter t xs) x
In-filter t (y ∷ ys) x (inl here) passes = let e : t y ≡ true = ap t here ∙ passes in rw e (inl here)
In-filter t (y ∷ ys) x (inr later) passes = elim (t y) as (λ b. In (cond b (y ∷ filter t ys) (filter t ys)) x) [
  | true ↦ inr (In-filter t ys x later passes)
  | false ↦ In-filter t ys x later passes
]
In-filter t [] x none passes = none

from_kept : {X : Type 0} (t : X → Bool) (y : X) (ys : List X) (x : X) (b : Bool) → t y ≡ b → (In (filter t ys) x → In ys x × (t x ≡ true)) →
    In (cond b (y ∷ filter t ys) (filter t ys)) x → In (y ∷ ys) x × (t x ≡ true)
from_kept t y ys x true is rest (inl here) = (inl here, ap t (sym here) ∙ is)
from_kept t y ys x true is rest (inr later) = let found = rest later in (inr found.0, found.1)
from_kept t y ys x false is rest later = let found = rest later in (inr found.0, found.1)

pub In-from_filter : {X : Type 0} (t : X → Bool) (xs : List X) (x : X) → In (filter t xs) x → In xs x × (t x ≡ true)
In-from_filter t (y ∷ ys) x member = from_kept t y ys x (t y) refl (In-from_filter t ys x) member
In-from_filter t [] x none = absurd none

pub In-append_left : {X : Type 0} (xs ys : List X) (x : X) → In xs x → In (xs ++ ys) x
In-append_left (z ∷ zs) ys x (inl here) = inl here
In-append_left (z ∷ zs) ys x (inr later) = inr (In-append_left zs ys x later)
In-append_left [] ys x none = absurd none

pub In-append_right : {X : Type 0} (xs ys : List X) (x : X) → In ys x → In (xs ++ ys) x
In-append_right (z ∷ zs) ys x member = inr (In-append_right zs ys x member)
In-append_right [] ys x member = member

pub In-from_append : {X : Type 0} (xs ys : List X) (x : X) → In (xs ++ ys) x → In xs x ⊎ In ys x
In-from_append (z ∷ zs) ys x (inl here) = inl (inl here)
In-from_append (z ∷ zs) ys x (inr later) = elim (In-from_append zs ys x later) [ inl first ↦ inl (inr first) | inr second ↦ inr second ]
In-from_append [] ys x member = inr member

pub In-range : (a n k : ℕ) → a ≤ k → k < a + n → In (range_with_len a n) k
In-range a (suc n) k from below = elim (cases_eq a k) [ inl here ↦ inl here | inr other ↦ inr (In-range (a + 1) n k (omega arith) (omega arith)) ]
In-range a zero k from below = absurd (omega arith)

pub In-from_range : (a n k : ℕ) → In (range_with_len a n) k → (a ≤ k) × (k < a + n)
In-from_range a (suc n) k (inl here) = (omega (arith, here), omega (arith, here))
In-from_range a (suc n) k (inr later) = let found = In-from_range (a + 1) n k later in (omega (arith, found.0), omega (arith, found.1))
In-from_range a zero k none = absurd none

-- nothing stands twice in the list, by recursion
abbrev pub Differ : {X : Type 0} → List X → Type 0
Differ [] = Unit {0}
Differ (x ∷ xs) = (In xs x → ⊥) × Differ xs

pub Differ-filter : {X : Type 0} (t : X → Bool) (xs : List X) → Differ xs → Differ (filter t xs)
Differ-filter t (x ∷ xs) differ = elim (t x) as (λ b. Differ (cond b (x ∷ filter t xs) (filter t xs))) [
  | true ↦ (λ again. differ.0 (In-from_filter t xs x again).0, Differ-filter t xs differ.1)
  | false ↦ Differ-filter t xs differ.1
]
Differ-filter t [] differ = tt

pub Differ-append : {X : Type 0} (xs ys : List X) → Differ xs → Differ ys → ((x : X) → In xs x → In ys x → ⊥) → Differ (xs ++ ys)
Differ-append (z ∷ zs) ys first second apart = (
  λ again. elim (In-from_append zs ys z again) [ inl here ↦ first.0 here | inr there ↦ apart z (inl refl) there ],
  Differ-append zs ys first.1 second (λ x here there. apart x (inr here) there),
)
Differ-append [] ys first second apart = second

-- a list made of different numbers by a function that tells them apart
pub Differ-map_range : {X : Type 0} (f : ℕ → X) (tells : (j k : ℕ) → f j ≡ f k → j ≡ k) (a n : ℕ) → Differ (map f (range_with_len a n))
Differ-map_range f tells a (suc n) = (
  λ again. let found = In-from_map f (range_with_len (a + 1) n) (f a) again in
      let number = In-from_range (a + 1) n found.0 found.1 in absurd (omega (arith, number.0, tells found.0 a found.2)),
  Differ-map_range f tells (a + 1) n,
)
Differ-map_range f tells a zero = tt

at-In : {X : Type 0} (xs : List X) (i : ℕ) (x : X) → slice_get xs i ≡ Some x → In xs x
at-In (y ∷ ys) zero x is = inl cc
at-In (y ∷ ys) (suc i) x is = inr (at-In ys i x is)
at-In [] i x is = absurd cc

-- so no two places have one element
pub Differ-HasNoRepeats : {X : Type 0} (xs : List X) → Differ xs → HasNoRepeats xs
Differ-HasNoRepeats (y ∷ ys) differ zero zero x first second = refl
Differ-HasNoRepeats (y ∷ ys) differ zero (suc j) x first second = let same : y ≡ x = cc in absurd (differ.0 (rw same (at-In ys j x second)))
Differ-HasNoRepeats (y ∷ ys) differ (suc i) zero x first second = let same : y ≡ x = cc in absurd (differ.0 (rw same (at-In ys i x first)))
Differ-HasNoRepeats (y ∷ ys) differ (suc i) (suc j) x first second = ap suc (Differ-HasNoRepeats ys differ.1 i j x first second)
Differ-HasNoRepeats [] differ i j x first second = absurd cc
