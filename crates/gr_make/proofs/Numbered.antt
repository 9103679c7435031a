-- Texts of parts that are numbered from 0.
use Rattle.std.proofs.Common.{◌≡◌, ℕ, ◌+◌, List, [], ◌∷◌, ◌++◌, map, flat_map, refl, ◌∙◌, ap, zero-add}
use Rattle.std.specs.List.{range_with_len}
use Rattle.std.proofs.lemmas.Grind.{flat_map-append}
use Rattle.std.proofs.lemmas.List.{append-nil}
use Rattle.std.proofs.lemmas.List.FromFn.{map-range_with_len_more}
use Rattle.gr_desk.specs.Pens.{PenTold, Puts}
use Rattle.gr_desk.proofs.Pens.{puts-then}

-- the text of one more part
pub puts-next : {A : Type 0} {a b c : PenTold} (text : A → List ℕ) (part : ℕ → A) (i : ℕ) →
    Puts a b (flat_map text (map part (range_with_len 0 i))) → Puts b c (text (part i)) →
    Puts a c (flat_map text (map part (range_with_len 0 (i + 1))))
puts-next text part i before next =
    let before_it = map part (range_with_len 0 i) in
    let more : flat_map text (map part (range_with_len 0 (i + 1))) ≡ flat_map text before_it ++ text (part i) =
    ap (flat_map text) (map-range_with_len_more part 0 i i (zero-add i)) ∙ flat_map-append text before_it (part i ∷ [])
    ∙ ap (λ last. flat_map text before_it ++ last) (append-nil (text (part i)))
    in
    rw more (puts-then before next)

-- the text of the lines of all parts is the text of all parts
pub flat_map-flat_map : {A B C : Type 0} (text : B → List C) (lines : A → List B) (parts : List A) →
    flat_map text (flat_map lines parts) ≡ flat_map (λ part. flat_map text (lines part)) parts
flat_map-flat_map text lines [] = refl
flat_map-flat_map text lines (part ∷ parts) =
    flat_map-append text (lines part) (flat_map lines parts)
    ∙ ap (λ rest. flat_map text (lines part) ++ rest) (flat_map-flat_map text lines parts)
