-- What is found for the nets of each part, put together.
use Rattle.std.proofs.Common.{◌≡◌, ℕ, zero, suc, ◌+◌, ◌-◌, ◌≤◌, List, [], ◌∷◌, ◌++◌, drop, map, take, Result, Ok, Err, IfOk, MatchResult, sym, ◌∙◌, ap, subst, arith, zero-add}
use Rattle.std.specs.List.{AllZip, flat_map, range_with_len, slice_range}
use Rattle.std.proofs.lemmas.List.Concat.{flat_map-cons}
use Rattle.rayon.proofs.ListFacts.{AllZip-append, AllZip-weaken}
use Rattle.grid_base.specs.Lists.{At}
use Rattle.routing_passes.proofs.Slices.{take_one}
use Rattle.dual_bound.proofs.PartSums.{slice_range-join, slice_range-empty}

-- the elements up to the next place
pub slice-next : {X : Type 0} (xs : List X) (a k : ℕ) (x : X) → a ≤ k → At xs k x → slice_range xs a (k + 1) ≡ slice_range xs a k ++ x ∷ []
slice-next xs a k x low at =
    let one : k + 1 - k ≡ 1 = omega arith in
    sym (slice_range-join xs a k (k + 1) low (omega arith))
    ∙ ap (λ ys. slice_range xs a k ++ ys) (ap (λ n. take n (drop k xs)) one ∙ take_one xs k x at)

-- and what is for them
pub AllZip-next : {X Y : Type 0} (R : X → Y → Type 0) (xs : List X) (ys : List Y) (a k : ℕ) (x : X) (y : Y) → a ≤ k → At xs k x → AllZip R (slice_range xs a k) ys → R x y
    → AllZip R (slice_range xs a (k + 1)) (ys ++ y ∷ [])
AllZip-next R xs ys a k x y low at before here =
    subst (λ zs. AllZip R zs (ys ++ y ∷ [])) (sym (slice-next xs a k x low at)) (AllZip-append R (slice_range xs a k) (x ∷ []) ys (y ∷ []) before (here, tt))

-- a relation that says more, with what it is said of before
pub AllZip-turned : {X Y : Type 0} (R S : X → Y → Type 0) (xs : List X) (ys : List Y) → AllZip R xs ys → ((x : X) (y : Y) → R x y → S x y) → AllZip S xs ys
AllZip-turned R S xs ys all turn = AllZip-weaken R S turn xs ys all

-- an `Ok` of a part, whose items are for the elements of the part
abbrev pub IsFoundOfPart : {X Y V : Type 0} → (X → Y → Type 0) → (V → List Y) → List X → (ℕ → ℕ) → ℕ → {E : Type 0} → Result V E → Type 0
IsFoundOfPart R items xs start part r = IfOk r (λ v. AllZip R (slice_range xs (start part) (start (part + 1))) (items v))

module _ {X Y V : Type 0} (R : X → Y → Type 0) (items : V → List Y) (xs : List X) (start : ℕ → ℕ) (rises : (a b : ℕ) → a ≤ b → start a ≤ start b) where
  pub parts_joined : (E : Type 0) (count first : ℕ) (found : List V) → AllZip (λ part r. IsFoundOfPart R items xs start part {E = E} r) (range_with_len first count) (map Ok found)
      → AllZip R (slice_range xs (start first) (start (first + count))) (flat_map items found)
  parts_joined E zero first [] each =
      let same : first + 0 ≡ first = omega arith in
      subst (λ (zs : List X). AllZip R zs []) (sym (ap (λ (k : ℕ). slice_range xs (start first) (start k)) same ∙ slice_range-empty xs (start first))) tt
  parts_joined E zero first (v ∷ found) each = absurd each
  parts_joined E (suc count) first [] each = absurd each
  parts_joined E (suc count) first (v ∷ found) each =
      let rest = parts_joined E count (first + 1) found each.1 in
      let last : first + 1 + count ≡ first + suc count = omega arith in
      let both = AllZip-append R _ _ (items v) (flat_map items found) each.0 rest in
      let whole = slice_range-join xs (start first) (start (first + 1)) (start (first + 1 + count)) (rises first (first + 1) (omega arith)) (rises (first + 1) (first + 1 + count) (omega arith)) in
      subst (λ (k : ℕ). AllZip R (slice_range xs (start first) (start k)) (flat_map items (v ∷ found))) last
      (subst (λ (ys : List Y). AllZip R (slice_range xs (start first) (start (first + 1 + count))) ys) (sym (flat_map-cons items v found))
      (subst (λ (zs : List X). AllZip R zs (items v ++ flat_map items found)) whole both))

  -- what is collected of all parts
  pub parts_found : {E W : Type 0} (list : W → List V) (Q : E → Type 0) (count : ℕ) (us : List (Result V E)) (r : Result W E)
      → AllZip (λ part r. IsFoundOfPart R items xs start part {E = E} r) (range_with_len 0 count) us
      → MatchResult r (λ w. (ys : List V) × (us ≡ map Ok ys) × (list w ≡ ys)) Q
      → IfOk r (λ w. AllZip R (slice_range xs (start 0) (start count)) (flat_map items (list w)))
  parts_found {E = E} list Q count us (Ok w) each made =
      let joined = parts_joined E count 0 made.0 (subst (λ (z : List (Result V E)). AllZip (λ part r. IsFoundOfPart R items xs start part {E = E} r) (range_with_len 0 count) z) made.1 each) in
      rw made.2 (subst (λ (k : ℕ). AllZip R (slice_range xs (start 0) (start k)) (flat_map items made.0)) (zero-add count) joined)
  parts_found list Q count us (Err e) each made = tt
