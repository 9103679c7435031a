-- A run of loads, word by word.
use Rattle.std.proofs.Common.{◌≡◌, ℕ, zero, suc, ◌+◌, ◌-◌, ◌<◌, ◌≤◌, List, [], ◌∷◌, ◌++◌, length, slice_index, slice_set, refl, sym, ◌∙◌, ap}
use Rattle.std.proofs.Common.{subst, ⊎_elim, arith, below_more}
use Rattle.std.proofs.lemmas.Bool.{cases_lt}
use Rattle.std.proofs.lemmas.List.{append-nil, append_assoc, get_or-set_other, get_or-set_same, length-set}
use Rattle.atomic_table.specs.Seated.{TableId}
use Rattle.load_core.specs.declared.loaded.Loaded.{Loaded}
use Rattle.load_core.specs.declared.party.Party.{Party}
use Rattle.load_core.specs.Parties.{entry, loaded, whole_allotment}
use Rattle.load_core.specs.Soundness.{IsCloseTo}
use Rattle.load_table.specs.Holdings.{IsShare, held}
use Rattle.load_table.specs.Runs.{LoadsBetween, loads_from}

-- loads in two runs
loads-split : (values : List ℕ) (a m n : ℕ) → loads_from values a (m + n) ≡ loads_from values a m ++ loads_from values (a + m) n
loads-split values a zero n =
    let count : 0 + n ≡ n = omega arith in
    let first : a ≡ a + 0 = omega arith in
    ap (λ (k : ℕ). loads_from values a k) count ∙ ap (λ (k : ℕ). loads_from values k n) first
loads-split values a (suc m) n =
    let count : suc m + n ≡ suc (m + n) = omega arith in
    let first : a + 1 + m ≡ a + suc m = omega arith in
    ap (λ (k : ℕ). loads_from values a k) count
    ∙ ap (λ (l : List Loaded). entry a (slice_index values a) ∷ l)
    (loads-split values (a + 1) m n ∙ ap (λ (k : ℕ). loads_from values (a + 1) m ++ loads_from values k n) first)

-- loads depend on what was found at their words alone
loads-same : (values others : List ℕ) (a n : ℕ) → ((w : ℕ) → w < a + n → slice_index others w ≡ slice_index values w) → loads_from values a n ≡ loads_from others a n
loads-same values others a zero same = refl
loads-same values others a (suc n) same =
    ap (λ (v : ℕ). entry a v ∷ loads_from values (a + 1) n) (sym (same a (omega arith)))
    ∙ ap (λ (l : List Loaded). entry a (slice_index others a) ∷ l) (loads-same values others (a + 1) n (λ w early. same w (omega (arith, early))))

-- no word was loaded
pub run_of_none : (a : ℕ) (p : Party) → LoadsBetween a a p p
run_of_none a p =
    let none : 0 ≡ a - a = omega arith in
    record {
      only = refl;
      loads = sym (append-nil p.history) ∙ ap (λ (k : ℕ). p.history ++ loads_from p.last a k) none;
      before = λ w low. refl;
      near = λ w low high. absurd (omega (arith, low, high));
    }

-- one word was loaded
run_of_one : (p : Party) (k n : ℕ) → k < length p.last → IsCloseTo p k n → LoadsBetween k (k + 1) p (loaded p k n)
run_of_one p k n within close =
    let last : List ℕ = slice_set p.last k n in
    let there : slice_index last k ≡ n = get_or-set_same p.last k n 0 within in
    let one : 1 ≡ k + 1 - k = omega arith in
    record {
      only = refl;
      loads = ap (λ (v : ℕ). p.history ++ entry k v ∷ []) (sym there) ∙ ap (λ (c : ℕ). p.history ++ loads_from last k c) one;
      before = λ w low. get_or-set_other p.last k w n 0 (λ at. omega (arith, low, at));
      near = λ w low high.
          let at : k ≡ w = omega (arith, low, high) in
          subst (λ (v : ℕ). IsCloseTo p v (slice_index last v)) at (rw there close);
    }

-- one run behind another
pub run_of_two : (a b c : ℕ) (old mid new : Party) → a ≤ b → b ≤ c → LoadsBetween a b old mid → LoadsBetween b c mid new → LoadsBetween a c old new
run_of_two a b c old mid new ab bc one two =
    let m : ℕ = b - a in
    let n : ℕ = c - b in
    let whole : m + n ≡ c - a = omega (arith, ab, bc) in
    let there : b ≡ a + m = omega (arith, ab) in
    let front : loads_from mid.last a m ≡ loads_from new.last a m = loads-same mid.last new.last a m (λ w early. two.before w (omega (arith, early, there))) in
    record {
      only = two.only ∙ ap (λ (q : Party). record q { last = new.last; history = new.history }) one.only;
      loads = two.loads
          ∙ ap (λ (h : List Loaded). h ++ loads_from new.last b n) one.loads
          ∙ append_assoc old.history (loads_from mid.last a m) (loads_from new.last b n)
          ∙ ap (λ (h : List Loaded). old.history ++ h)
          (ap (λ (h : List Loaded). h ++ loads_from new.last b n) front
          ∙ ap (λ (k : ℕ). loads_from new.last a m ++ loads_from new.last k n) there
          ∙ sym (loads-split new.last a m n)
          ∙ ap (λ (k : ℕ). loads_from new.last a k) whole);
      before = λ w low. two.before w (omega (arith, low, ab)) ∙ one.before w low;
      near = λ w low high. ⊎_elim
          (λ (early : w < b). rw (two.before w early) (one.near w low early))
          (λ (late : b ≤ w).
          let here = subst (λ (q : Party). IsCloseTo q w (slice_index new.last w)) one.only (two.near w late high) in
          record { least = here.least; most = here.most })
          (cases_lt w b);
    }

-- one word more
pub run_of_more : (a k n : ℕ) (old p : Party) → a ≤ k → LoadsBetween a k old p → k < length p.last → IsCloseTo p k n → LoadsBetween a (k + 1) old (loaded p k n)
run_of_more a k n old p low before within close = run_of_two a k (k + 1) old p (loaded p k n) low (omega arith) before (run_of_one p k n within close)

-- a load leaves a share
pub share_loaded : (table : TableId) (p : Party) (k n : ℕ) → IsShare (held table p) → IsShare (held table (loaded p k n))
share_loaded table p k n s = record {
  live = s.live;
  wide = record { shares = s.wide.shares; last = length-set p.last k n ∙ s.wide.last };
  within = s.within;
  whole = s.whole;
}

-- what a load may find is no more than the whole allotment
pub fits_whole : (table : TableId) (p : Party) (k n : ℕ) → IsShare (held table p) → IsCloseTo p k n → n ≤ whole_allotment
fits_whole table p k n s close = omega (arith, close.most, s.within k, s.whole)

-- one more word that fits
pub whole_more : (first k n : ℕ) (last : List ℕ) → k < length last → ((w : ℕ) → first ≤ w → w < k → slice_index last w ≤ whole_allotment) → n ≤ whole_allotment
    → (w : ℕ) → first ≤ w → w < k + 1 → slice_index (slice_set last k n) w ≤ whole_allotment
whole_more first k n last within before fits w low early =
    below_more (λ w. first ≤ w → slice_index (slice_set last k n) w ≤ whole_allotment) k
    (λ w under low. omega (arith, before w low under, get_or-set_other last k w n 0 (λ at. omega (arith, under, at))))
    (λ low. omega (arith, fits, get_or-set_same last k n 0 within)) w early low
