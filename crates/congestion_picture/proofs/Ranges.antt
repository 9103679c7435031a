-- Texts that are put along a range of numbers.
use Rattle.std.proofs.Common.{◌≡◌, ℕ, ◌+◌, List, [], ◌∷◌, ◌++◌, map, flat_map, refl, sym, ◌∙◌, ap, subst, zero-add}
use Rattle.std.specs.List.{range_with_len}
use Rattle.std.proofs.lemmas.Grind.{flat_map-append}
use Rattle.std.proofs.lemmas.List.{append-nil}
use Rattle.std.proofs.lemmas.List.FromFn.{map-range_with_len_more}
use Rattle.gr_desk.specs.Pens.{PenTold, Puts}
use Rattle.gr_desk.proofs.Pens.{puts-then}

same_list : (xs : List ℕ) → map (λ (x : ℕ). x) xs ≡ xs
same_list [] = refl
same_list (x ∷ xs) = ap (λ (rest : List ℕ). x ∷ rest) (same_list xs)

range_more : (n : ℕ) → range_with_len 0 (n + 1) ≡ range_with_len 0 n ++ n ∷ []
range_more n =
    sym (same_list (range_with_len 0 (n + 1)))
    ∙ map-range_with_len_more (λ (x : ℕ). x) 0 n n (zero-add n)
    ∙ ap (λ (xs : List ℕ). xs ++ n ∷ []) (same_list (range_with_len 0 n))

-- the text of one more number
pub puts-number : {a b c : PenTold} (text : ℕ → List ℕ) (n : ℕ) → Puts a b (flat_map text (range_with_len 0 n)) → Puts b c (text n)
    → Puts a c (flat_map text (range_with_len 0 (n + 1)))
puts-number {a = a} {c = c} text n before next =
    let more : flat_map text (range_with_len 0 (n + 1)) ≡ flat_map text (range_with_len 0 n) ++ text n =
    ap (flat_map text) (range_more n) ∙ flat_map-append text (range_with_len 0 n) (n ∷ [])
    ∙ ap (λ last. flat_map text (range_with_len 0 n) ++ last) (append-nil (text n))
    in
    subst (Puts a c) (sym more) (puts-then before next)

-- the texts of all numbers
pub puts-numbers : {a b : PenTold} (text : ℕ → List ℕ) (n count : ℕ) → n ≡ count → Puts a b (flat_map text (range_with_len 0 n))
    → Puts a b (flat_map text (range_with_len 0 count))
puts-numbers {a = a} {b = b} text n count same puts = subst (λ (k : ℕ). Puts a b (flat_map text (range_with_len 0 k))) same puts
