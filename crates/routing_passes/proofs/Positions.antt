-- The elements at some positions of a list.
use Rattle.std.proofs.Common.{◌≡◌, ℕ, zero, suc, ◌+◌, ◌-◌, ◌≤◌, ◌<◌, List, [], ◌∷◌, ◌++◌, length, take, drop}
use Rattle.std.proofs.Common.{slice_range, All, refl, sym, ◌∙◌, ap, arith}
use Rattle.std.specs.List.{range_with_len}
use Rattle.std.proofs.Math.Nat.{sub_self}
use Rattle.std.proofs.Math.Seq.{take-add, drop-drop}
use Rattle.std.proofs.lemmas.List.{get_or-drop, length-drop, take_all, take_more}
use Rattle.std.proofs.lemmas.List.Elements.{All-tail}
use Rattle.std.proofs.lemmas.Option.{slice_get_within, get_or_from_slice_get}
use Rattle.grid_base.specs.Lists.{At}
use Rattle.price_workers.proofs.TurnFacts.{stands}
use Rattle.routing_passes.proofs.Slices.{slice-cons}
use Rattle.sharing_runs.specs.RepairRuns.{at_positions}

-- the element at a position
pub one_here : {X : Type 0} (xs : List X) (k : ℕ) (x : X) → At xs k x → slice_range xs k (k + 1) ≡ x ∷ []
one_here xs k x at = rw (slice-cons xs k (k + 1) x at (omega arith), sub_self)

pub at_positions-cons : {X : Type 0} (xs : List X) (k : ℕ) (ks : List ℕ) (x : X) → At xs k x
    → at_positions xs (k ∷ ks) ≡ x ∷ at_positions xs ks
at_positions-cons xs k ks x at = ap (λ first. first ++ at_positions xs ks) (one_here xs k x at)

-- all positions are within the list
abbrev pub AreWithin : {X : Type 0} → List X → List ℕ → Type 0
AreWithin xs ks = All (λ k. k < length xs) ks

pub first_within : {X : Type 0} (xs : List X) (k : ℕ) (ks : List ℕ) → AreWithin xs (k ∷ ks) → k < length xs
first_within xs k ks within = within 0 0 (omega arith)

pub rest_within : {X : Type 0} (xs : List X) (k : ℕ) (ks : List ℕ) → AreWithin xs (k ∷ ks) → AreWithin xs ks
rest_within xs k ks within = All-tail (λ j. j < length xs) k ks within

pub at_positions-long : {X : Type 0} (xs : List X) (ks : List ℕ) → AreWithin xs ks → length (at_positions xs ks) ≡ length ks
at_positions-long xs [] within = refl
at_positions-long xs (k ∷ ks) within =
    let x = stands xs k (first_within xs k ks within) in
    rw (at_positions-cons xs k ks x.0 x.1) (ap suc (at_positions-long xs ks (rest_within xs k ks within)))

-- what stands at a place among them stands at that position
pub at_positions-at : {X : Type 0} (xs : List X) (ks : List ℕ) (i k : ℕ) (x : X) → AreWithin xs ks → At ks i k → At xs k x
    → At (at_positions xs ks) i x
at_positions-at xs [] i k x within at stands' = absurd (omega (arith, slice_get_within [] i k at))
at_positions-at xs (j ∷ ks) zero k x within at stands' =
    let same : j ≡ k = get_or_from_slice_get (j ∷ ks) 0 k 0 at in
    rw (at_positions-cons xs j ks x (rw same stands'))
at_positions-at xs (j ∷ ks) (suc i) k x within at stands' =
    let y = stands xs j (first_within xs j ks within) in
    rw (at_positions-cons xs j ks y.0 y.1) (at_positions-at xs ks i k x (rest_within xs j ks within) at stands')

-- a part of a list that is longer by one
pub slice-push : {X : Type 0} (xs : List X) (a i : ℕ) (x : X) → At xs i x → a ≤ i
    → slice_range xs a (i + 1) ≡ slice_range xs a i ++ x ∷ []
slice-push xs a i x at low =
    let many : i + 1 - a ≡ (i - a) + 1 = omega (arith, low) in
    let place : a + (i - a) ≡ i = omega (arith, low) in
    let short : i - a < length (drop a xs) = omega (arith, length-drop a xs, slice_get_within xs i x at, low) in
    rw (many, take_more (drop a xs) (i - a) x short, get_or-drop, place, get_or_from_slice_get xs i x x at)

-- at the positions in a range stands a part of the list
at_positions-range : {X : Type 0} (xs : List X) (a n : ℕ) → at_positions xs (range_with_len a n) ≡ take n (drop a xs)
at_positions-range xs a zero = refl
at_positions-range xs a (suc n) =
    let one : a + 1 - a ≡ 1 = omega arith in
    let many : suc n ≡ 1 + n = omega arith in
    rw (one, at_positions-range xs (a + 1) n, ← drop-drop 1 a xs, ← take-add 1 n (drop a xs))
    (ap (λ k. take k (drop a xs)) (sym many))

-- at those of all elements stand all
pub at_positions-all : {X : Type 0} (xs : List X) (n : ℕ) → length xs ≡ n → at_positions xs (range_with_len 0 n) ≡ xs
at_positions-all xs n long = at_positions-range xs 0 n ∙ take_all n xs (omega (arith, long))
