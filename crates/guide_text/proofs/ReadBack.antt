-- Reading back the text of guides.
use Rattle.std.proofs.Common.{◌≡◌, ℕ, ◌+◌, ◌==◌, true, false, List, [], ◌∷◌, ◌++◌, length, All, map, refl, sym, ap, subst, ◌∙◌, ⊎_elim, true≢false, eqb-true, arith, ℤ, pos, neg_ℤ, ◌≤ℤ◌, Ok, nat_lt}
use Rattle.std.specs.Prelude.{flat_map, codes, decimal}
use Rattle.std.specs.Fmt.{signed_decimal}
use Rattle.std.specs.Str.{all_ascii_digits}
use Rattle.std.proofs.lemmas.Bool.{cases_Bool, and_parts}
use Rattle.std.proofs.lemmas.Int.{ints}
use Rattle.std.proofs.lemmas.List.{append_assoc, append-nil, map-id}
use Rattle.std.proofs.lemmas.Slice.Eq.{bytes_eq-Decides}
use Rattle.grid_graph.specs.Limits.{max_id}
use Rattle.text_scan.specs.Tokens.{is_gap, is_word, ends_word}
use Rattle.text_scan.specs.Numbers.{is_number, is_within, value_of}
use Rattle.text_scan.specs.Reading.{Reading, whole, left, is_some_of, is_next, past_blanks, past_token}
use Rattle.text_scan.proofs.Texts.{Leads, leads-then, next_is_first, left_past_blanks, left_past_token, word_is_next, byte_is_next, word_is_left, gap_is_left, number_is_word, within_them, parts_lead}
use Rattle.text_scan.proofs.Words.{printed_number}
use Rattle.guide_text.specs.declared.guide.Guide.{Guide}
use Rattle.guide_text.specs.declared.rect.Rect.{Rect}
use Rattle.guide_text.specs.GuideText.{rect_text, guide_text, guides_text}
use Rattle.guide_text.specs.ReadBack.{IsBorder, IsRectInRange, IsGuideInRange}
use Rattle.guide_text.specs.ReadGuides.{guide_token_at, guide_number_at, guide_mark_at, border_at, rect_at, rects_at, guide_at, guides_in, no_guide_follows, max_border}
use Rattle.guide_text.proofs.Takes.{next_rect_takes, next_guide_takes}

-- a word behind blanks is the next token
token_leads : (r : Reading) (gap word rest : List ℕ) → is_gap gap ≡ true → is_word word ≡ true → ends_word rest ≡ true → left r ≡ gap ++ (word ++ rest)
    → Leads (guide_token_at r) (record { place = r.place + length gap; bytes = word }) rest
token_leads r gap word rest blank is ends here = record {
  after = past_token r;
  reads = rw (word_is_next r gap word rest blank is here ends) refl;
  leaves = left_past_token r gap word rest blank is here ends;
}

-- a number that was printed is read back
number_leads : (lo hi z : ℤ) → lo ≤ℤ z → z ≤ℤ hi → neg_ℤ (pos max_border) ≤ℤ z → z ≤ℤ pos max_border → (r : Reading) (gap rest : List ℕ) → is_gap gap ≡ true → ends_word rest ≡ true
    → left r ≡ gap ++ (signed_decimal z ++ rest) → Leads (guide_number_at lo hi r) z rest
number_leads lo hi z low high above below r gap rest blank ends here =
    let printed = printed_number z (omega (arith, ints, above, below)) in
    let word = number_is_word (signed_decimal z) printed.0 in
    let within : is_within lo hi (value_of (signed_decimal z)) ≡ true = ap (is_within lo hi) printed.1 ∙ within_them lo hi z low high in
    record {
      after = past_token r;
      reads = rw (word_is_next r gap (signed_decimal z) rest blank word here ends, printed.0, within, printed.1) refl;
      leaves = left_past_token r gap (signed_decimal z) rest blank word here ends;
    }

border_leads : (z : ℤ) → IsBorder z → (r : Reading) (gap rest : List ℕ) → is_gap gap ≡ true → ends_word rest ≡ true → left r ≡ gap ++ (signed_decimal z ++ rest) → Leads (border_at r) z rest
border_leads z is = number_leads (neg_ℤ (pos max_border)) (pos max_border) z is.low is.high is.low is.high

-- a mark that is a word is read
mark_leads : (mark : List ℕ) → is_word mark ≡ true → (r : Reading) (gap rest : List ℕ) → is_gap gap ≡ true → ends_word rest ≡ true → left r ≡ gap ++ (mark ++ rest) → Leads (guide_mark_at mark r) tt rest
unfolding guide_mark_at
mark_leads mark is r gap rest blank ends here =
    leads-then _ (token_leads r gap mark rest blank is ends here) (λ r1 here1.
    record { after = r1; reads = rw ((bytes_eq-Decides mark mark).1 refl) refl; leaves = here1 })

-- no number begins with `)`
begins_no_number : (bs : List ℕ) → is_number (41 ∷ bs) ≡ true → ⊥
begins_no_number bs is = true≢false (sym ((and_parts (nat_lt 0 (length (41 ∷ bs))) (all_ascii_digits (41 ∷ bs)) is).1))

no_end_before : (r : Reading) (gap number rest : List ℕ) → is_gap gap ≡ true → is_number number ≡ true → left r ≡ gap ++ (number ++ rest) → is_next 41 r ≡ false
no_end_before r gap [] rest blank is here = absurd (true≢false (sym is))
no_end_before r gap (b ∷ bs) rest blank is here =
    let next = next_is_first r gap (b ∷ bs) rest blank (number_is_word (b ∷ bs) is) here in
    ap (is_some_of 41) next ∙ ⊎_elim
    (λ (same : (b == 41) ≡ true). absurd (begins_no_number bs (subst (λ x. is_number (x ∷ bs) ≡ true) (eqb-true b 41 same) is)))
    (λ (other : (b == 41) ≡ false). other)
    (cases_Bool (b == 41))

-- a rectangle's text, number by number
rect_parts : (x1 y1 x2 y2 layer rest : List ℕ) → (x1 ++ codes " " ++ y1 ++ codes " " ++ x2 ++ codes " " ++ y2 ++ codes " " ++ layer ++ codes "\n") ++ rest
    ≡ x1 ++ (32 ∷ (y1 ++ (32 ∷ (x2 ++ (32 ∷ (y2 ++ (32 ∷ (layer ++ (10 ∷ rest)))))))))
rect_parts x1 y1 x2 y2 layer rest = simp append_assoc

-- a written rectangle is read back, up to its line's end
rect_leads : (rect : Rect) → IsRectInRange rect → (r : Reading) (rest : List ℕ)
    → left r ≡ signed_decimal rect.x1 ++ (32 ∷ (signed_decimal rect.y1 ++ (32 ∷ (signed_decimal rect.x2 ++ (32 ∷ (signed_decimal rect.y2 ++ (32 ∷ (signed_decimal rect.layer ++ (10 ∷ rest)))))))))
    → Leads (rect_at r) rect (10 ∷ rest)
unfolding rect_at
rect_leads rect is r rest here =
    leads-then _ (border_leads rect.x1 is.x1 r [] _ refl refl here) (λ r1 here1.
    leads-then _ (border_leads rect.y1 is.y1 r1 (32 ∷ []) _ refl refl here1) (λ r2 here2.
    leads-then _ (border_leads rect.x2 is.x2 r2 (32 ∷ []) _ refl refl here2) (λ r3 here3.
    leads-then _ (border_leads rect.y2 is.y2 r3 (32 ∷ []) _ refl refl here3) (λ r4 here4.
    leads-then _ (border_leads rect.layer is.layer r4 (32 ∷ []) _ refl refl here4) (λ r5 here5.
    record { after = r5; reads = refl; leaves = here5 })))))

rect_reads_back : (rect : Rect) → IsRectInRange rect → (r : Reading) (gap rest : List ℕ) → is_gap gap ≡ true → left r ≡ gap ++ (rect_text rect ++ rest) →
    (is_next 41 r ≡ false) × Leads (rect_at (past_blanks r)) rect (10 ∷ rest)
rect_reads_back rect is r gap rest blank here =
    let parts = here ∙ ap (λ bytes. gap ++ bytes) (rect_parts (signed_decimal rect.x1) (signed_decimal rect.y1) (signed_decimal rect.x2) (signed_decimal rect.y2) (signed_decimal rect.layer) rest) in
    let printed = printed_number rect.x1 (omega (arith, ints, is.x1.low, is.x1.high)) in (
      no_end_before r gap (signed_decimal rect.x1) _ blank printed.0 parts,
      rect_leads rect is (past_blanks r) rest (left_past_blanks r gap (signed_decimal rect.x1) _ blank (number_is_word (signed_decimal rect.x1) printed.0) parts),
    )

-- and so are all up to the end of the guide
rects_lead : (rects : List Rect) → All IsRectInRange rects → (r : Reading) (rest : List ℕ) → left r ≡ 10 ∷ (flat_map rect_text rects ++ (41 ∷ (10 ∷ rest))) → Leads (rects_at r) (map (λ (rect : Rect). rect) rects) (41 ∷ (10 ∷ rest))
rects_lead rects are r rest here =
    parts_lead (is_next 41) past_blanks rect_at next_rect_takes IsRectInRange rect_text (λ (rect : Rect). rect) (10 ∷ []) refl rect_reads_back (41 ∷ (10 ∷ rest)) (41 ∷ (10 ∷ rest))
    (λ q gap blank there. ((byte_is_next 41 q gap (10 ∷ rest) blank refl there).0, left_past_blanks q gap (41 ∷ []) (10 ∷ rest) blank refl there)) rects are r (10 ∷ []) refl here

-- a guide as it is read back
abbrev reread : Guide → Guide
reread guide = record { name = guide.name; id = guide.id; rects = map (λ (rect : Rect). rect) guide.rects }

reread-same : (guide : Guide) → reread guide ≡ guide
reread-same guide = λ i. record { name = guide.name; id = guide.id; rects = map-id guide.rects i }

all_reread : (guides : List Guide) → map reread guides ≡ guides
all_reread [] = refl
all_reread (guide ∷ guides) = λ i. reread-same guide i ∷ all_reread guides i

-- a guide's text, part by part
guide_parts : (name id lines rest : List ℕ) → (name ++ codes " " ++ id ++ codes "\n(\n" ++ lines ++ codes ")\n") ++ rest ≡ name ++ (32 ∷ (id ++ (10 ∷ (40 ∷ (10 ∷ (lines ++ (41 ∷ (10 ∷ rest))))))))
guide_parts name id lines rest = simp append_assoc

-- a written guide is read back
guide_leads : (guide : Guide) → IsGuideInRange guide → (r : Reading) (rest : List ℕ)
    → left r ≡ guide.name ++ (32 ∷ (decimal guide.id ++ (10 ∷ (40 ∷ (10 ∷ (flat_map rect_text guide.rects ++ (41 ∷ (10 ∷ rest)))))))) → Leads (guide_at r) (reread guide) (10 ∷ rest)
unfolding guide_at
guide_leads guide is r rest here =
    leads-then _ (token_leads r [] guide.name _ refl is.name refl here) (λ r1 here1.
    leads-then _ (number_leads (pos 0) (pos max_id) (pos guide.id) (omega (arith, ints)) (omega (arith, ints, is.id)) (omega (arith, ints)) (omega (arith, ints, is.id)) r1 (32 ∷ []) _ refl refl here1) (λ r2 here2.
    leads-then _ (mark_leads (codes "(") refl r2 (10 ∷ []) _ refl refl here2) (λ r3 here3.
    leads-then _ (rects_lead guide.rects is.rects r3 rest here3) (λ r4 here4.
    leads-then _ (mark_leads (codes ")") refl r4 [] _ refl refl here4) (λ r5 here5.
    record { after = r5; reads = refl; leaves = here5 })))))

guide_reads_back : (guide : Guide) → IsGuideInRange guide → (r : Reading) (gap rest : List ℕ) → is_gap gap ≡ true → left r ≡ gap ++ (guide_text guide ++ rest) →
    (no_guide_follows r ≡ false) × Leads (guide_at (past_blanks r)) (reread guide) (10 ∷ rest)
guide_reads_back guide is r gap rest blank here =
    let parts = here ∙ ap (λ bytes. gap ++ bytes) (guide_parts guide.name (decimal guide.id) (flat_map rect_text guide.rects) rest) in (
      word_is_left r gap guide.name _ blank is.name parts,
      guide_leads guide is (past_blanks r) rest (left_past_blanks r gap guide.name _ blank is.name parts),
    )

-- a written text is read back
pub guides_read_back : (guides : List Guide) → All IsGuideInRange guides → guides_in (guides_text guides) ≡ Ok guides
guides_read_back guides are =
    let read = parts_lead no_guide_follows past_blanks guide_at next_guide_takes IsGuideInRange guide_text reread (10 ∷ []) refl
    guide_reads_back [] [] (λ q gap blank there. gap_is_left q gap blank there) guides are (whole (guides_text guides)) [] refl (sym (append-nil (guides_text guides))) in
    rw read.reads (ap (λ (xs : List Guide). Ok xs) (all_reread guides))
