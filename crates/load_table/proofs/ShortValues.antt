-- Values of which most are short.
use Rattle.std.proofs.Common.{◌≡◌, ◌≢◌, ℕ, zero, suc, ◌+◌, ◌<◌, List, length, replicate, slice_index, slice_set, refl, sym, ◌∙◌, ap, ⊎_elim, arith}
use Rattle.std.proofs.lemmas.Bool.{cases_eq}
use Rattle.std.proofs.lemmas.List.{ext_get_or, get_or-replicate, get_or-set_other, get_or-set_same, length-replicate, length-set}
use Rattle.std.proofs.lemmas.List.FromFn.{get_or-map-range_with_len, length-map-range_with_len}
use Rattle.load_table.specs.Shortened.{found_at, found_values, stands_for}

-- there are as many values as in the short list
pub length-found : (short wide : List ℕ) → length (found_values short wide) ≡ length short
length-found short wide = length-map-range_with_len (found_at short wide) 0 (length short)

-- a word of the values is one of the short list
pub inside-short : (short wide : List ℕ) {values : List ℕ} {k : ℕ} → found_values short wide ≡ values → k < length values → k < length short
inside-short short wide is within = omega (arith, within, ap length is, length-found short wide)

-- the value of a word
at-found : (short wide : List ℕ) (k : ℕ) → k < length short → slice_index (found_values short wide) k ≡ found_at short wide k
at-found short wide k within = get_or-map-range_with_len (found_at short wide) 0 (length short) k k 0 within (omega arith)

-- the values are those of a list that is as long and has them at its words
are-found : (short wide values : List ℕ) → length short ≡ length values → ((k : ℕ) → k < length short → found_at short wide k ≡ slice_index values k) → found_values short wide ≡ values
are-found short wide values long each =
    ext_get_or 0 (found_values short wide) values (length-found short wide ∙ long)
    (λ k within.
    let inside : k < length short = rw (← length-found short wide) within in
    at-found short wide k inside ∙ each k inside)

-- where 1 stands for every value, each is 0
pub found-zeros : (words : ℕ) (short wide : List ℕ) → short ≡ replicate words 1 → found_values short wide ≡ replicate words 0
found-zeros words short wide ones = are-found short wide (replicate words 0) (ap length ones ∙ length-replicate {A = ℕ} words 1 ∙ sym (length-replicate {A = ℕ} words 0))
    (λ k within.
    let inside : k < words = omega (arith, within, ap length ones, length-replicate {A = ℕ} words 1) in
    ap (λ (n : ℕ). stands_for n (slice_index wide k)) (ap (λ (l : List ℕ). slice_index l k) ones ∙ get_or-replicate words k 1 0 inside) ∙ sym (get_or-replicate words k 0 0 inside))

-- one value is put in place of another
found-set : (short wide short' wide' : List ℕ) (k value : ℕ) → length short' ≡ length short → k < length short → found_at short' wide' k ≡ value
    → ((j : ℕ) → j ≢ k → found_at short' wide' j ≡ found_at short wide j) → found_values short' wide' ≡ slice_set (found_values short wide) k value
found-set short wide short' wide' k value long inside here others =
    are-found short' wide' (slice_set (found_values short wide) k value) (long ∙ sym (length-found short wide) ∙ sym (length-set (found_values short wide) k value))
    (λ j within. ⊎_elim
    (λ (at : j ≡ k). ap (found_at short' wide') at ∙ here ∙ sym (get_or-set_same (found_values short wide) k value 0 (rw (length-found short wide) inside))
    ∙ ap (slice_index (slice_set (found_values short wide) k value)) (sym at))
    (λ (other : j ≢ k). others j other ∙ sym (at-found short wide j (rw (← long) within)) ∙ sym (get_or-set_other (found_values short wide) k j value 0 other))
    (cases_eq j k))

-- a short value is put
pub put-short : (short wide : List ℕ) (k value stood : ℕ) → stood ≡ suc value → k < length short → found_values (slice_set short k stood) wide ≡ slice_set (found_values short wide) k value
put-short short wide k value stood more inside = found-set short wide (slice_set short k stood) wide k value (length-set short k stood) inside
    (ap (λ (n : ℕ). stands_for n (slice_index wide k)) (get_or-set_same short k stood 0 inside ∙ more))
    (λ j other. ap (λ (n : ℕ). stands_for n (slice_index wide j)) (get_or-set_other short k j stood 0 other))

-- a value is put in full, in a list that may have become longer by zeros
pub put-wide : (short wide wide' : List ℕ) (k value : ℕ) → ((j : ℕ) → slice_index wide' j ≡ slice_index wide j) → k < length short → k < length wide'
    → found_values (slice_set short k 0) (slice_set wide' k value) ≡ slice_set (found_values short wide) k value
put-wide short wide wide' k value same inside place = found-set short wide (slice_set short k 0) (slice_set wide' k value) k value (length-set short k 0) inside
    (ap (λ (n : ℕ). stands_for n (slice_index (slice_set wide' k value) k)) (get_or-set_same short k 0 0 inside) ∙ get_or-set_same wide' k value 0 place)
    (λ j other. ap (λ (n : ℕ). stands_for n (slice_index (slice_set wide' k value) j)) (get_or-set_other short k j 0 0 other)
    ∙ ap (stands_for (slice_index short j)) (get_or-set_other wide' k j value 0 other ∙ same j))

-- where 0 stands for the value of a word, it is the one in full
pub at-wide : (short wide : List ℕ) (k : ℕ) → k < length short → slice_index short k ≡ 0 → slice_index (found_values short wide) k ≡ slice_index wide k
at-wide short wide k within none = at-found short wide k within ∙ ap (λ (n : ℕ). stands_for n (slice_index wide k)) none

-- where another number stands for it, it is 1 less than that
pub at-short : (short wide : List ℕ) (k : ℕ) → k < length short → slice_index short k ≢ 0 → slice_index (found_values short wide) k + 1 ≡ slice_index short k
at-short short wide k within some = one-less (slice_index short k) (slice_index wide k) some (at-found short wide k within)
  where
    one-less : (n full : ℕ) {v : ℕ} → n ≢ 0 → v ≡ stands_for n full → v + 1 ≡ n
    one-less zero full not is = absurd (not refl)
    one-less (suc n) full not is = omega (arith, is)
