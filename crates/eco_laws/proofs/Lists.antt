-- Lists in which a key names one element.
use Rattle.std.proofs.Common.{◌≡◌, ◌≢◌, ℕ, zero, suc, ◌==◌, List, [], ◌∷◌, map, cond, Some, refl, sym, ◌∙◌, ap, arith, eq-eqb, ne_eqb}
use Rattle.std.specs.Prelude.{not, slice_set, filter}
use Rattle.std.specs.List.{remove}
use Rattle.std.proofs.lemmas.Option.{same_Some, slice_get_within}
use Rattle.grid_base.specs.Lists.{At}

-- no two places have elements with one key
abbrev pub IsKeyed : {X : Type 0} → (X → ℕ) → List X → Type 0
IsKeyed {X} key xs = (i j : ℕ) (x y : X) → At xs i x → At xs j y → key x ≡ key y → i ≡ j

module _ {X : Type 0} (key : X → ℕ) where
  IsKeyed-rest : (x : X) (xs : List X) → IsKeyed key (x ∷ xs) → IsKeyed key xs
  IsKeyed-rest x xs keyed i j y z at_y at_z same = omega (arith, keyed (suc i) (suc j) y z at_y at_z same)

  -- the first element has the key, so none behind it has
  others_differ : (x : X) (xs : List X) (id : ℕ) → IsKeyed key (x ∷ xs) → key x ≡ id → (k : ℕ) (y : X) → At xs k y → key y ≢ id
  others_differ x xs id keyed first k y at same = omega (arith, keyed zero (suc k) x y refl at (first ∙ sym same))

  -- an element behind the first has the key, so the first has not
  first_differs : (x : X) (xs : List X) (p id : ℕ) (y : X) → IsKeyed key (x ∷ xs) → At xs p y → key y ≡ id → key x ≢ id
  first_differs x xs p id y keyed at second same = omega (arith, keyed zero (suc p) x y refl at (same ∙ sym second))

  -- where no element has the key, nothing is taken out and nothing is changed
  filter-none : (xs : List X) (id : ℕ) → ((k : ℕ) (x : X) → At xs k x → key x ≢ id) → filter (λ x. not (key x == id)) xs ≡ xs
  filter-none [] id none = refl
  filter-none (x ∷ xs) id none = rw (ne_eqb (key x) id (none zero x refl)) (ap (λ ys. x ∷ ys) (filter-none xs id (λ k. none (suc k))))

  map-none : (f : X → X) (xs : List X) (id : ℕ) → ((k : ℕ) (x : X) → At xs k x → key x ≢ id) → map (λ x. cond (key x == id) (f x) x) xs ≡ xs
  map-none f [] id none = refl
  map-none f (x ∷ xs) id none = rw (ne_eqb (key x) id (none zero x refl)) (ap (λ ys. x ∷ ys) (map-none f xs id (λ k. none (suc k))))

  -- what has the key is taken out
  pub filter-once : (xs : List X) (p id : ℕ) (x : X) → IsKeyed key xs → At xs p x → key x ≡ id → filter (λ y. not (key y == id)) xs ≡ remove xs p
  filter-once [] p id x keyed at has = absurd (omega (arith, slice_get_within [] p x at))
  filter-once (y ∷ xs) zero id x keyed at has =
      let here : key y ≡ id = ap key (same_Some y x at) ∙ has in
      rw (eq-eqb (key y) id here) (filter-none xs id (others_differ y xs id keyed here))
  filter-once (y ∷ xs) (suc p) id x keyed at has =
      rw (ne_eqb (key y) id (first_differs y xs p id x keyed at has)) (ap (λ ys. y ∷ ys) (filter-once xs p id x (IsKeyed-rest y xs keyed) at has))

  -- or changed in its place
  pub map-once : (f : X → X) (xs : List X) (p id : ℕ) (x : X) → IsKeyed key xs → At xs p x → key x ≡ id
      → map (λ y. cond (key y == id) (f y) y) xs ≡ slice_set xs p (f x)
  map-once f [] p id x keyed at has = absurd (omega (arith, slice_get_within [] p x at))
  map-once f (y ∷ xs) zero id x keyed at has =
      let one : y ≡ x = same_Some y x at in
      rw (eq-eqb (key y) id (ap key one ∙ has), map-none f xs id (others_differ y xs id keyed (ap key one ∙ has))) (ap (λ z. f z ∷ xs) one)
  map-once f (y ∷ xs) (suc p) id x keyed at has =
      rw (ne_eqb (key y) id (first_differs y xs p id x keyed at has)) (ap (λ ys. y ∷ ys) (map-once f xs p id x (IsKeyed-rest y xs keyed) at has))

module _ {X Y : Type 0} (f : X → Y) where
  -- what stands in a list stands there behind a map, and nothing else
  pub At-mapped : (xs : List X) (p : ℕ) (x : X) → At xs p x → At (map f xs) p (f x)
  At-mapped [] p x at = absurd (omega (arith, slice_get_within [] p x at))
  At-mapped (y ∷ xs) zero x at = ap (λ z. Some (f z)) (same_Some y x at)
  At-mapped (y ∷ xs) (suc p) x at = At-mapped xs p x at

  pub At-unmapped : (xs : List X) (p : ℕ) (y : Y) → At (map f xs) p y → (x : X) × At xs p x × (f x ≡ y)
  At-unmapped [] p y at = absurd (omega (arith, slice_get_within [] p y at))
  At-unmapped (x ∷ xs) zero y at = (x, refl, same_Some (f x) y at)
  At-unmapped (x ∷ xs) (suc p) y at = At-unmapped xs p y at

  pub map-replaced : (xs : List X) (p : ℕ) (x : X) → map f (slice_set xs p x) ≡ slice_set (map f xs) p (f x)
  map-replaced [] zero x = refl
  map-replaced [] (suc p) x = refl
  map-replaced (y ∷ xs) zero x = refl
  map-replaced (y ∷ xs) (suc p) x = ap (λ ys. f y ∷ ys) (map-replaced xs p x)
