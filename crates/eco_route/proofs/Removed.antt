-- Lists without the element at a place.
use Rattle.std.proofs.Common.{◌≡◌, ◌≢◌, ℕ, zero, suc, ◌+◌, ◌<◌, List, [], ◌∷◌, ◌++◌, length, refl, ap, arith}
use Rattle.std.specs.Prelude.{map, slice_set}
use Rattle.std.specs.List.{remove, zip}
use Rattle.std.proofs.lemmas.Option.{slice_get_within}
use Rattle.grid_base.specs.Lists.{At, HasNoRepeats}

-- the place at which the element stood that now stands at k, where the one at p is gone
abbrev pub place_before : ℕ → ℕ → ℕ
place_before zero k = suc k
place_before (suc p) zero = zero
place_before (suc p) (suc k) = suc (place_before p k)

pub remove-none : {X : Type 0} (p : ℕ) → remove {X = X} [] p ≡ []
remove-none zero = refl
remove-none (suc p) = refl

pub At-removed : {X : Type 0} (xs : List X) (p k : ℕ) (x : X) → At (remove xs p) k x → At xs (place_before p k) x
At-removed [] zero k x at = absurd (omega (arith, slice_get_within [] k x at))
At-removed [] (suc p) k x at = absurd (omega (arith, slice_get_within [] k x at))
At-removed (y ∷ xs) zero k x at = at
At-removed (y ∷ xs) (suc p) zero x at = at
At-removed (y ∷ xs) (suc p) (suc k) x at = At-removed xs p k x at

pub At-remaining : {X : Type 0} (xs : List X) (p k : ℕ) (x : X) → At xs (place_before p k) x → At (remove xs p) k x
At-remaining [] zero k x at = absurd (omega (arith, slice_get_within [] (suc k) x at))
At-remaining [] (suc p) k x at = absurd (omega (arith, slice_get_within [] (place_before (suc p) k) x at))
At-remaining (y ∷ xs) zero k x at = at
At-remaining (y ∷ xs) (suc p) zero x at = at
At-remaining (y ∷ xs) (suc p) (suc k) x at = At-remaining xs p k x at

-- it is not the place of the one that is gone
pub place_before-differs : (p k : ℕ) → place_before p k ≢ p
place_before-differs zero k same = omega (arith, same)
place_before-differs (suc p) zero same = omega (arith, same)
place_before-differs (suc p) (suc k) same = place_before-differs p k (omega (arith, same))

-- and these places rise
pub place_before-rises : (p i j : ℕ) → i < j → place_before p i < place_before p j
place_before-rises zero i j less = omega (arith, less)
place_before-rises (suc p) i zero less = absurd (omega (arith, less))
place_before-rises (suc p) zero (suc j) less = omega arith
place_before-rises (suc p) (suc i) (suc j) less = omega (arith, place_before-rises p i j (omega (arith, less)))

-- so no two places have one
pub place_before-once : (p i j : ℕ) → place_before p i ≡ place_before p j → i ≡ j
place_before-once zero i j same = omega (arith, same)
place_before-once (suc p) zero zero same = refl
place_before-once (suc p) zero (suc j) same = absurd (omega (arith, same))
place_before-once (suc p) (suc i) zero same = absurd (omega (arith, same))
place_before-once (suc p) (suc i) (suc j) same = ap suc (place_before-once p i j (omega (arith, same)))

-- every other place is one of them
pub place_after : (p k : ℕ) → k ≢ p → (j : ℕ) × (place_before p j ≡ k)
place_after zero zero other = absurd (other refl)
place_after zero (suc k) other = (k, refl)
place_after (suc p) zero other = (zero, refl)
place_after (suc p) (suc k) other = let found = place_after p k (λ same. other (ap suc same)) in (suc found.0, ap suc found.1)

pub length-removed : {X : Type 0} (xs : List X) (p : ℕ) → p < length xs → length (remove xs p) + 1 ≡ length xs
length-removed [] p within = absurd (omega (arith, within))
length-removed (y ∷ xs) zero within = omega arith
length-removed (y ∷ xs) (suc p) within = omega (arith, length-removed xs p (omega (arith, within)))

pub map-removed : {X Y : Type 0} (f : X → Y) (xs : List X) (p : ℕ) → map f (remove xs p) ≡ remove (map f xs) p
map-removed f [] zero = refl
map-removed f [] (suc p) = refl
map-removed f (y ∷ xs) zero = refl
map-removed f (y ∷ xs) (suc p) = ap (λ ys. f y ∷ ys) (map-removed f xs p)

zip-nothing : {X Y : Type 0} (xs : List X) → zip {X = Y} xs [] ≡ []
zip-nothing [] = refl
zip-nothing (x ∷ xs) = refl

pub zip-removed : {X Y : Type 0} (xs : List X) (ys : List Y) (p : ℕ) → zip (remove xs p) (remove ys p) ≡ remove (zip xs ys) p
zip-removed [] ys zero = refl
zip-removed [] ys (suc p) = refl
zip-removed (x ∷ xs) [] zero = zip-nothing xs
zip-removed (x ∷ xs) [] (suc p) = refl
zip-removed (x ∷ xs) (y ∷ ys) zero = refl
zip-removed (x ∷ xs) (y ∷ ys) (suc p) = ap (λ ps. (x, y) ∷ ps) (zip-removed xs ys p)

-- without the element that was set, and without the one that was pushed
pub remove-set : {X : Type 0} (xs : List X) (p : ℕ) (y : X) → remove (slice_set xs p y) p ≡ remove xs p
remove-set [] zero y = refl
remove-set [] (suc p) y = refl
remove-set (x ∷ xs) zero y = refl
remove-set (x ∷ xs) (suc p) y = ap (λ ys. x ∷ ys) (remove-set xs p y)

pub remove-pushed : {X : Type 0} (xs : List X) (y : X) → remove (xs ++ y ∷ []) (length xs) ≡ xs
remove-pushed [] y = refl
remove-pushed (x ∷ xs) y = ap (λ ys. x ∷ ys) (remove-pushed xs y)

-- no element comes twice
pub HasNoRepeats-removed : {X : Type 0} (xs : List X) (p : ℕ) → HasNoRepeats xs → HasNoRepeats (remove xs p)
HasNoRepeats-removed xs p once i j x at_i at_j =
    place_before-once p i j (once (place_before p i) (place_before p j) x (At-removed xs p i x at_i) (At-removed xs p j x at_j))
