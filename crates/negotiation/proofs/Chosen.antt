-- Nets that are chosen of an order, one after another.
use Rattle.std.proofs.Common.{◌≡◌, ◌↔◌, ℕ, ◌+◌, ◌-◌, ◌<◌, ◌≤◌, Bool, true, false, cond, List, [], ◌∷◌, ◌++◌, length, length-append, length-drop, map, take, drop, get_or, refl, sym, ◌∙◌, ap, subst, arith, inl, inr}
use Rattle.std.specs.Bool.{IsTrue}
use Rattle.std.specs.List.{range_with_len, slice_range}
use Rattle.std.proofs.lemmas.Bool.{false≢true}
use Rattle.std.proofs.lemmas.List.{append-nil, get_or-drop, take_more}
use Rattle.std.proofs.lemmas.List.FromFn.{map-range_with_len_more}
use Rattle.negotiation.specs.Batches.{IsBatch}
use Rattle.negotiation.specs.BatchSizes.{batch_size}
use Rattle.negotiation.specs.Chosen.{AreChosen}
use Rattle.negotiation.specs.declared.due.Due.{Due}
use Rattle.negotiation.specs.declared.due.Due.TheVariants.{Overfull, Improvable}

-- one more, where it is asked whether it is wanted
pub chosen_more : (Wanted : ℕ → Type 0) (all chosen : List ℕ) (n : ℕ) (b : Bool) → AreChosen Wanted all chosen → (IsTrue b ↔ Wanted n)
    → AreChosen Wanted (all ++ n ∷ []) (chosen ++ cond b (n ∷ []) [])
chosen_more Wanted [] chosen n true are is = inl ([], ap (λ xs. xs ++ n ∷ []) are, is.0 refl, refl)
chosen_more Wanted [] chosen n false are is = inr ((λ wanted. false≢true (is.1 wanted)), append-nil chosen ∙ are)
chosen_more Wanted (m ∷ all) chosen n b (inl w) is =
    inl (w.0 ++ cond b (n ∷ []) [], ap (λ xs. xs ++ cond b (n ∷ []) []) w.1, w.2, chosen_more Wanted all w.0 n b w.3 is)
chosen_more Wanted (m ∷ all) chosen n b (inr w) is = inr (w.0, chosen_more Wanted all chosen n b w.1 is)

-- one place more of an order
range_more : (order : List ℕ) (from at : ℕ) → from ≤ at → at < length order → slice_range order from (at + 1) ≡ slice_range order from at ++ get_or order at 0 ∷ []
range_more order from at past within =
    let places : (at + 1) - from ≡ (at - from) + 1 = omega arith in
    let place : from + (at - from) ≡ at = omega arith in
    let behind : at - from < length (drop from order) = omega (arith, length-drop from order) in
    ap (λ (n : ℕ). take n (drop from order)) places
    ∙ (take_more (drop from order) (at - from) 0 behind
    ∙ ap (λ (n : ℕ). slice_range order from at ++ n ∷ []) (get_or-drop from order (at - from) 0 ∙ ap (λ (k : ℕ). get_or order k 0) place))

pub chosen_on : (Wanted : ℕ → Type 0) (order chosen : List ℕ) (from at : ℕ) (b : Bool) → from ≤ at → at < length order → (IsTrue b ↔ Wanted (get_or order at 0))
    → AreChosen Wanted (slice_range order from at) chosen → AreChosen Wanted (slice_range order from (at + 1)) (chosen ++ cond b (get_or order at 0 ∷ []) [])
chosen_on Wanted order chosen from at b past within is are =
    subst (λ (xs : List ℕ). AreChosen Wanted xs (chosen ++ cond b (get_or order at 0 ∷ []) [])) (sym (range_more order from at past within))
    (chosen_more Wanted (slice_range order from at) chosen (get_or order at 0) b are is)

-- nothing is chosen of no places
pub chosen_none : (Wanted : ℕ → Type 0) (order chosen : List ℕ) (from : ℕ) → chosen ≡ [] → AreChosen Wanted (slice_range order from from) chosen
chosen_none Wanted order chosen from none =
    let nowhere : from - from ≡ 0 = omega arith in
    subst (λ (n : ℕ). AreChosen Wanted (take n (drop from order)) chosen) (sym nowhere) none

-- a batch that has its size
pub batch_full : (Wanted : ℕ → Type 0) (size : ℕ) (order before : List ℕ) (from at : ℕ) (b : Bool) → from ≤ at → at < length order → (IsTrue b ↔ Wanted (get_or order at 0))
    → AreChosen Wanted (slice_range order from at) before → length before < size → size ≤ length (before ++ cond b (get_or order at 0 ∷ []) [])
    → IsBatch Wanted size order from (at + 1) (before ++ cond b (get_or order at 0 ∷ []) [])
batch_full Wanted size order before from at true past within is are few full =
    let long = length-append before (get_or order at 0 ∷ []) in
    record {
      chosen = chosen_on Wanted order before from at true past within is are;
      few = omega (arith, long, few);
      full = λ on. (omega (arith, long, few, full), subst (λ (k : ℕ). Wanted (get_or order k 0)) (omega arith) (is.0 refl));
    }
batch_full Wanted size order before from at false past within is are few full = absurd (omega (arith, length-append {A = ℕ} before [], few, full))

-- a batch at the end of the order
pub batch_end : (Wanted : ℕ → Type 0) (size : ℕ) (order batch : List ℕ) (from at end : ℕ) → at ≡ end → length order ≤ end
    → AreChosen Wanted (slice_range order from at) batch → length batch ≤ size → IsBatch Wanted size order from end batch
batch_end Wanted size order batch from at end same past are few = record {
  chosen = subst (λ (n : ℕ). AreChosen Wanted (slice_range order from n) batch) same are;
  few = few;
  full = λ on. absurd (omega (arith, on, past));
}

-- there is room in each batch
pub batch_size-some : (nets may_be_due : ℕ) (due : Due) → 0 < batch_size nets may_be_due due
batch_size-some nets may_be_due Overfull = omega arith
batch_size-some nets may_be_due Improvable = omega arith

same_list : (xs : List ℕ) → map (λ (x : ℕ). x) xs ≡ xs
same_list [] = refl
same_list (x ∷ xs) = ap (λ (rest : List ℕ). x ∷ rest) (same_list xs)

-- one net more of all
pub all_more : (n : ℕ) → range_with_len 0 (n + 1) ≡ range_with_len 0 n ++ n ∷ []
all_more n =
    sym (same_list (range_with_len 0 (n + 1)))
    ∙ (map-range_with_len_more (λ (x : ℕ). x) 0 n n (omega arith)
    ∙ ap (λ (xs : List ℕ). xs ++ n ∷ []) (same_list (range_with_len 0 n)))

-- one net more of all that are asked
pub chosen_next : (Wanted : ℕ → Type 0) (chosen : List ℕ) (n : ℕ) (b : Bool) → (IsTrue b ↔ Wanted n) → AreChosen Wanted (range_with_len 0 n) chosen
    → AreChosen Wanted (range_with_len 0 (n + 1)) (chosen ++ cond b (n ∷ []) [])
chosen_next Wanted chosen n b is are =
    subst (λ (xs : List ℕ). AreChosen Wanted xs (chosen ++ cond b (n ∷ []) [])) (sym (all_more n))
    (chosen_more Wanted (range_with_len 0 n) chosen n b are is)
