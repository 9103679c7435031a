-- What stands at the places of lists.
use Rattle.std.proofs.Common.{◌≡◌, ℕ, zero, suc, ◌<◌, ◌≤◌, ◌⊎◌, Bool, true, false, ◌==◌, ◌||◌, max, fold, Contains, List, [], ◌∷◌, ◌++◌, length, get_or, slice_index, refl, sym, ap, ◌∙◌, subst, inl, inr, ⊎_elim, le_refl, ne_eqb, arith}
use Rattle.std.specs.List.{AllZip, list_any}
use Rattle.std.proofs.Math.Bool.{or_comm, or-false}
use Rattle.std.proofs.lemmas.Bool.{cases_Bool, cases_lt, false≢true}
use Rattle.std.proofs.lemmas.List.{get_or_past}
use Rattle.std.proofs.lemmas.List.Folds.{list_any-append, list_any_at}
use Rattle.std.proofs.lemmas.Option.{same_Some, slice_get_within, slice_get_read, slice_get-get_or, get_or_from_slice_get}
use Rattle.grid_base.specs.Lists.{At}

-- what stood there stands there still
pub At-push : {X : Type 0} (xs : List X) (x y : X) (k : ℕ) → At xs k y → At (xs ++ x ∷ []) k y
At-push [] x y k at = absurd (omega (arith, slice_get_within [] k y at))
At-push (z ∷ xs) x y zero at = at
At-push (z ∷ xs) x y (suc k) at = At-push xs x y k at

-- what was pushed stands behind it
pub At-pushed : {X : Type 0} (xs : List X) (x : X) → At (xs ++ x ∷ []) (length xs) x
At-pushed [] x = refl
At-pushed (z ∷ xs) x = At-pushed xs x

-- and nothing else does
pub At-push_cases : {X : Type 0} (xs : List X) (x y : X) (k : ℕ) → At (xs ++ x ∷ []) k y → (At xs k y) ⊎ ((k ≡ length xs) × (y ≡ x))
At-push_cases [] x y zero at = inr (refl, sym (same_Some _ _ at))
At-push_cases [] x y (suc k) at = cc
At-push_cases (z ∷ xs) x y zero at = inl at
At-push_cases (z ∷ xs) x y (suc k) at = ⊎_elim (λ old. inl old) (λ last. inr (ap suc last.0, last.1)) (At-push_cases xs x y k at)

-- what holds at each place of two lists holds of what stands at one place
pub AllZip-at : {A B : Type 0} (R : A → B → Type 0) (xs : List A) (ys : List B) (k : ℕ) (x : A) (y : B) → AllZip R xs ys → At xs k x → At ys k y → R x y
AllZip-at R [] ys k x y all at_x at_y = absurd (omega (arith, slice_get_within [] k x at_x))
AllZip-at R (a ∷ xs) [] k x y all at_x at_y = absurd all
AllZip-at R (a ∷ xs) (b ∷ ys) zero x y all at_x at_y = subst (R x) (same_Some _ _ at_y) (subst (λ z. R z b) (same_Some _ _ at_x) all.0)
AllZip-at R (a ∷ xs) (b ∷ ys) (suc k) x y all at_x at_y = AllZip-at R xs ys k x y all.1 at_x at_y

-- and the other way round, where the lists are of one length
pub AllZip-from_places : {A B : Type 0} (R : A → B → Type 0) (xs : List A) (ys : List B) → length ys ≡ length xs → ((k : ℕ) (x : A) (y : B) → At xs k x → At ys k y → R x y) → AllZip R xs ys
AllZip-from_places R [] [] long each = tt
AllZip-from_places R [] (b ∷ ys) long each = absurd (omega (arith, long))
AllZip-from_places R (a ∷ xs) [] long each = absurd (omega (arith, long))
AllZip-from_places R (a ∷ xs) (b ∷ ys) long each =
    (each 0 a b refl refl, AllZip-from_places R xs ys (omega (arith, long)) (λ k x y at_x at_y. each (suc k) x y at_x at_y))

-- a member of a list stands at some place
pub At-from_member : {X : Type 0} (xs : List X) (x : X) → Contains xs x → (k : ℕ) × (k < length xs) × At xs k x
At-from_member xs x member = (member.0, member.1, slice_get_read xs (length xs) member.0 x refl member.1 (sym member.2))

-- and what stands at a place is a member
pub member_from_place : {X : Type 0} (xs : List X) (k : ℕ) (x : X) → At xs k x → Contains xs x
member_from_place xs k x at = (k, slice_get_within xs k x at, get_or_from_slice_get xs k x x at)

-- a member is the first element or one of the rest
pub head_or_rest : {X : Type 0} (x : X) (rest : List X) (y : X) → Contains (x ∷ rest) y → (y ≡ x) ⊎ Contains rest y
head_or_rest x rest y (zero, within, is) = inl (sym is)
head_or_rest x rest y (suc k, within, is) = inr (k, omega (arith, within), is)

pub Contains-rest : {X : Type 0} (x : X) (rest : List X) (y : X) → Contains rest y → Contains (x ∷ rest) y
Contains-rest x rest y at = (suc at.0, omega (arith, at.1), at.2)

-- what a test finds nowhere stands nowhere
pub not_at : {X : Type 0} (test : X → Bool) (xs : List X) → list_any test xs ≡ false → (i : ℕ) (x : X) → At xs i x → test x ≡ false
not_at test xs none i x at = ⊎_elim
    (λ (found : test x ≡ true). absurd (false≢true (sym none ∙ list_any_at test xs i x (slice_get_within xs i x at) (ap test (get_or_from_slice_get xs i x x at) ∙ found))))
    (λ (not_found : test x ≡ false). not_found)
    (cases_Bool (test x))

-- a test finds an element that was pushed, or one that stood there
pub list_any-pushed : {X : Type 0} (test : X → Bool) (xs : List X) (x : X) → list_any test (xs ++ x ∷ []) ≡ (test x || list_any test xs)
list_any-pushed test xs x = list_any-append test xs (x ∷ []) ∙ ap (λ b. list_any test xs || b) (or-false (test x)) ∙ or_comm (list_any test xs) (test x)

-- a limit of each element is one at every index
pub index_within : (xs : List ℕ) (limit : ℕ) → ((i x : ℕ) → At xs i x → x ≤ limit) → (l : ℕ) → slice_index xs l ≤ limit
index_within xs limit each l = ⊎_elim
    (λ (h : l < length xs). each l (get_or xs l 0) (slice_get-get_or xs l 0 h))
    (λ (h : length xs ≤ l). rw (get_or_past xs l 0 h) (omega arith))
    (cases_lt l (length xs))

le-fold_max : (xs : List ℕ) (a : ℕ) → a ≤ fold max a xs
le-fold_max [] a = le_refl a
le-fold_max (x ∷ xs) a = omega (arith, le-fold_max xs (max a x))

-- no element is above the greatest
pub get_or-le-fold_max : (xs : List ℕ) (a i : ℕ) → get_or xs i 0 ≤ fold max a xs
get_or-le-fold_max [] a i = omega arith
get_or-le-fold_max (x ∷ xs) a zero = omega (arith, le-fold_max xs (max a x))
get_or-le-fold_max (x ∷ xs) a (suc i) = get_or-le-fold_max xs (max a x) i

-- a list with an element is not empty
pub length-some : {X : Type 0} (xs : List X) → (xs ≡ [] → ⊥) → (length xs == 0) ≡ false
length-some [] some = absurd (some refl)
length-some (x ∷ xs) some = ne_eqb (length (x ∷ xs)) 0 (λ e. omega (arith, e))
