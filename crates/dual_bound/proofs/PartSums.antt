-- Sums of net bounds, part after part.
use Rattle.std.proofs.Common.{◌≡◌, ℕ, zero, suc, ◌+◌, ◌-◌, ◌≤◌, Option, List, [], ◌∷◌, ◌++◌, map, take, drop, Result, Ok, Err, IfOk, MatchResult, sum, refl, sym, ◌∙◌, ap, subst, arith, zero-add}
use Rattle.std.specs.List.{AllZip, range_with_len, slice_range}
use Rattle.std.proofs.Math.Seq.{take-add}
use Rattle.std.proofs.lemmas.List.{drop-drop}
use Rattle.std.proofs.lemmas.List.Sums.{sum_by-cons, sum_by-append}
use Rattle.rayon.proofs.ListFacts.{AllZip-append}
use Rattle.grid_graph.specs.declared.grid.Grid.{Grid}
use Rattle.grid_graph.specs.declared.net_spec.NetSpec.{NetSpec}
use Rattle.edge_prices.specs.declared.budget.Budget.{Budget}
use Rattle.dual_bound.specs.DesignBounds.{IsBoundOfNet, IsSumOfBounds}

module _ (g : Grid) (prices : List ℕ) (budget : Option Budget) where
  pub no_sum : IsSumOfBounds g prices budget [] 0
  no_sum = record { bounds = []; each = tt; sums = refl }

  pub sums_together : (one other : List NetSpec) (x y : ℕ) → IsSumOfBounds g prices budget one x → IsSumOfBounds g prices budget other y → IsSumOfBounds g prices budget (one ++ other) (x + y)
  sums_together one other x y a b = record {
    bounds = a.bounds ++ b.bounds;
    each = AllZip-append (IsBoundOfNet g prices budget) one other a.bounds b.bounds a.each b.each;
    sums = omega (arith, a.sums, b.sums, sum_by-append (λ (n : ℕ). n) a.bounds b.bounds);
  }

pub slice_range-join : {X : Type 0} (xs : List X) (a b c : ℕ) → a ≤ b → b ≤ c → slice_range xs a b ++ slice_range xs b c ≡ slice_range xs a c
slice_range-join xs a b c low high =
    let behind : a + (b - a) ≡ b = omega (arith, low) in
    let long : (b - a) + (c - b) ≡ c - a = omega (arith, low, high) in
    ap (λ ys. take (b - a) (drop a xs) ++ take (c - b) ys) (ap (λ k. drop k xs) (sym behind) ∙ sym (drop-drop (b - a) a xs))
    ∙ sym (take-add (b - a) (c - b) (drop a xs))
    ∙ ap (λ k. take k (drop a xs)) long

pub slice_range-empty : {X : Type 0} (xs : List X) (a : ℕ) → slice_range xs a a ≡ []
slice_range-empty xs a = let none : a - a ≡ 0 = omega arith in ap (λ k. take k (drop a xs)) none

-- an `Ok` of each part
abbrev pub PartSums : Grid → List ℕ → Option Budget → List NetSpec → (ℕ → ℕ) → ℕ → {E : Type 0} → Result ℕ E → Type 0
PartSums g prices budget nets start part r = IfOk r (IsSumOfBounds g prices budget (slice_range nets (start part) (start (part + 1))))

module _ (g : Grid) (prices : List ℕ) (budget : Option Budget) (nets : List NetSpec) (start : ℕ → ℕ) (rises : (k : ℕ) → start k ≤ start (k + 1)) where
  pub start-rises : (k m : ℕ) → start k ≤ start (k + m)
  start-rises k zero = let same : k + 0 ≡ k = omega arith in subst (λ (j : ℕ). start k ≤ start j) (sym same) (omega arith)
  start-rises k (suc m) =
      let same : k + m + 1 ≡ k + suc m = omega arith in
      subst (λ (j : ℕ). start k ≤ start j) same (omega (arith, start-rises k m, rises (k + m)))

  pub parts_joined : (E : Type 0) (count first : ℕ) (sums : List ℕ) → AllZip (λ part r. PartSums g prices budget nets start part {E = E} r) (range_with_len first count) (map Ok sums)
      → IsSumOfBounds g prices budget (slice_range nets (start first) (start (first + count))) (sum sums)
  parts_joined E zero first [] each =
      let same : first + 0 ≡ first = omega arith in
      subst (λ (ns : List NetSpec). IsSumOfBounds g prices budget ns 0) (sym (ap (λ (k : ℕ). slice_range nets (start first) (start k)) same ∙ slice_range-empty nets (start first))) (no_sum g prices budget)
  parts_joined E zero first (y ∷ sums) each = absurd each
  parts_joined E (suc count) first [] each = absurd each
  parts_joined E (suc count) first (y ∷ sums) each =
      let rest = parts_joined E count (first + 1) sums each.1 in
      let last : first + 1 + count ≡ first + suc count = omega arith in
      let both = sums_together g prices budget _ _ y (sum sums) each.0 rest in
      let nets_join = slice_range-join nets (start first) (start (first + 1)) (start (first + 1 + count)) (rises first) (start-rises (first + 1) count) in
      let add : y + sum sums ≡ sum (y ∷ sums) = sym (sum_by-cons (λ (x : ℕ). x) y sums) in
      subst (λ (k : ℕ). IsSumOfBounds g prices budget (slice_range nets (start first) (start k)) (sum (y ∷ sums))) last
      (subst (λ (t : ℕ). IsSumOfBounds g prices budget (slice_range nets (start first) (start (first + 1 + count))) t) add
      (subst (λ (ns : List NetSpec). IsSumOfBounds g prices budget ns (y + sum sums)) nets_join both))

  -- what is collected of all parts
  pub parts_summed : {E V : Type 0} (items : V → List ℕ) (Q : E → Type 0) (count : ℕ) (us : List (Result ℕ E)) (r : Result V E)
      → AllZip (λ part r. PartSums g prices budget nets start part {E = E} r) (range_with_len 0 count) us
      → MatchResult r (λ v. (ys : List ℕ) × (us ≡ map Ok ys) × (items v ≡ ys)) Q
      → IfOk r (λ v. IsSumOfBounds g prices budget (slice_range nets (start 0) (start count)) (sum (items v)))
  parts_summed {E = E} items Q count us (Ok v) each made =
      let joined = parts_joined E count 0 made.0 (subst (λ (z : List (Result ℕ E)). AllZip (λ part r. PartSums g prices budget nets start part {E = E} r) (range_with_len 0 count) z) made.1 each) in
      rw made.2 (subst (λ (k : ℕ). IsSumOfBounds g prices budget (slice_range nets (start 0) (start k)) (sum made.0)) (zero-add count) joined)
  parts_summed items Q count us (Err e) each made = tt
