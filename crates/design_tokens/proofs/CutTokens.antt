-- What is known of a token when one more byte has come.
use Rattle.std.proofs.Common.{◌≡◌, ℕ, zero, suc, ◌<◌, ◌≤◌, ◌+◌, ⊎_elim, true, List, [], ◌∷◌, ◌++◌, length, take, refl, sym, ap, ◌∙◌, arith, true≢false, eq-eqb, ne_eqb, length-append, length-take}
use Rattle.std.specs.Prelude.{nat_eq, ◌&&◌, ◌≢◌, ◌==◌, false, min}
use Rattle.std.specs.Str.{bytes_eq}
use Rattle.std.proofs.lemmas.Bool.{cases_Bool}
use Rattle.std.proofs.lemmas.Bool.Decides.{nat_tests}
use Rattle.text_scan.specs.Tokens.{Token}
use Rattle.design_tokens.specs.declared.cut_token.CutToken.{CutToken}
use Rattle.design_tokens.specs.declared.first_bytes.TheConstants.{KEPT}
use Rattle.design_tokens.specs.declared.wanted.Wanted.{Wanted}
use Rattle.design_tokens.specs.declared.wanted.Wanted.TheVariants as wanted
use Rattle.design_tokens.specs.Words.{spelling}
use Rattle.design_tokens.specs.Numerals.{numeral_behind}
use Rattle.design_tokens.specs.CutTokens.{IsCutToken, begins_word, has_no_byte}
use Rattle.design_tokens.proofs.Numerals.{numeral_all}

-- the first bytes of the first bytes and more
pub first_more : (n : ℕ) (bs more : List ℕ) → take n (take n bs ++ more) ≡ take n (bs ++ more)
first_more zero bs more = refl
first_more (suc n) [] more = refl
first_more (suc n) (d ∷ ds) more = ap (λ l. d ∷ l) (first_more n ds more)

-- bytes for which there is no room
pub first_enough : (n room : ℕ) (bs more : List ℕ) → min n (length bs + length more) ≤ length bs + room → take n (bs ++ take room more) ≡ take n (bs ++ more)
first_enough zero room bs more enough = refl
first_enough (suc n) room (d ∷ ds) more enough = ap (λ l. d ∷ l) (first_enough n room ds more (omega (arith, enough)))
first_enough (suc n) zero [] [] enough = refl
first_enough (suc n) zero [] (m ∷ ms) enough = absurd (omega (arith, enough))
first_enough (suc n) (suc room) [] [] enough = refl
first_enough (suc n) (suc room) [] (m ∷ ms) enough = ap (λ l. m ∷ l) (first_enough n room [] ms (omega (arith, enough)))

-- a shorter word is the first bytes where it is all of them
front_is_word : (n : ℕ) (bs word : List ℕ) → length word < n → bytes_eq (take n bs) word ≡ bytes_eq bs word
front_is_word zero bs word short = absurd (omega arith)
front_is_word (suc n) [] word short = refl
front_is_word (suc n) (b ∷ bs) [] short = refl
front_is_word (suc n) (b ∷ bs) (w ∷ ws) short = ap (λ same. nat_eq b w && same) (front_is_word n bs ws (omega arith))

spelling_fits : (w : Wanted) → length (spelling w) < KEPT
spelling_fits wanted.Grid = omega arith
spelling_fits wanted.Vertical = omega arith
spelling_fits wanted.Horizontal = omega arith
spelling_fits wanted.Capacity = omega arith
spelling_fits wanted.Minimum = omega arith
spelling_fits wanted.Width = omega arith
spelling_fits wanted.Spacing = omega arith
spelling_fits wanted.Via = omega arith
spelling_fits wanted.Num = omega arith
spelling_fits wanted.Net = omega arith
spelling_fits wanted.Number = omega arith
spelling_fits wanted.Name = omega arith

-- each word begins as words do
begins_so : (w : Wanted) → begins_word (spelling w) ≡ true
begins_so wanted.Grid = refl
begins_so wanted.Vertical = refl
begins_so wanted.Horizontal = refl
begins_so wanted.Capacity = refl
begins_so wanted.Minimum = refl
begins_so wanted.Width = refl
begins_so wanted.Spacing = refl
begins_so wanted.Via = refl
begins_so wanted.Num = refl
begins_so wanted.Net = refl
begins_so wanted.Number = refl
begins_so wanted.Name = refl

-- what begins otherwise is no word
no_word : (bs word : List ℕ) → begins_word bs ≡ false → begins_word word ≡ true → bytes_eq bs word ≡ false
no_word bs [] low high = absurd (true≢false (sym high))
no_word [] (w ∷ ws) low high = refl
no_word (b ∷ bs) (w ∷ ws) low high = let differ : nat_eq b w ≡ false = grind (arith, nat_tests) in rw differ refl

-- the word that a token is
pub word_seen : (c : CutToken) (t : Token) (w : Wanted) → IsCutToken c t → (c.word && bytes_eq c.first (spelling w)) ≡ bytes_eq t.bytes (spelling w)
word_seen c t w is = ⊎_elim
    (λ (yes : c.word ≡ true). rw yes (ap (λ first. bytes_eq first (spelling w)) (is.first yes) ∙ front_is_word KEPT t.bytes (spelling w) (spelling_fits w)))
    (λ (no : c.word ≡ false). rw no (sym (no_word t.bytes (spelling w) (sym is.word ∙ no) (begins_so w))))
    (cases_Bool c.word)

-- more bytes leave the first one
begins_still : (bs more : List ℕ) → (length bs == 0) ≡ false → begins_word (bs ++ more) ≡ begins_word bs
begins_still [] more some = absurd (true≢false some)
begins_still (b ∷ bs) more some = refl

some_still : (bs more : List ℕ) → (length bs == 0) ≡ false → (length (bs ++ more) == 0) ≡ false
some_still [] more some = absurd (true≢false some)
some_still (b ∷ bs) more some = ne_eqb (length ((b ∷ bs) ++ more)) 0 (λ none. omega (arith, none))

-- more bytes of a token
pub bytes_added : (old new : CutToken) (t : Token) (more : List ℕ) → IsCutToken old t → new.place ≡ old.place → new.word ≡ old.word → (old.word ≡ true → new.first ≡ take KEPT (t.bytes ++ more)) →
    new.numeral ≡ numeral_behind old.numeral more → (new.named ≡ true → (old.named ≡ true) × (new.name.items ≡ old.name.items ++ more)) → IsCutToken new (record { place = t.place; bytes = t.bytes ++ more })
bytes_added old new t more is place word first numeral name = record {
  place = place ∙ is.place;
  some = some_still t.bytes more is.some;
  word = word ∙ is.word ∙ sym (begins_still t.bytes more is.some);
  first = λ yes. first (sym word ∙ yes);
  numeral = numeral ∙ ap (λ n. numeral_behind n more) is.numeral ∙ sym (numeral_all _ t.bytes more);
  name = λ named. let kept = name named in kept.1 ∙ ap (λ l. l ++ more) (is.name kept.0);
}

-- it has a byte still
pub still_some : (old : CutToken) (first : List ℕ) (t : Token) (more : List ℕ) → IsCutToken old t → has_no_byte old ≡ false → (old.word ≡ true → first ≡ take KEPT (t.bytes ++ more)) → (old.word ≡ false → first ≡ old.first) → (length first == 0) ≡ false
still_some old first t more is some more_of_word other = ⊎_elim
    (λ (yes : old.word ≡ true).
    let had : length old.first ≢ 0 = λ none. true≢false (sym (eq-eqb (length old.first) 0 none) ∙ some) in
    let long : length old.first ≡ min KEPT (length t.bytes) = ap length (is.first yes) ∙ length-take KEPT t.bytes in
    let longer : length first ≡ min KEPT (length (t.bytes ++ more)) = ap length (more_of_word yes) ∙ length-take KEPT (t.bytes ++ more) in
    ne_eqb (length first) 0 (λ none. had (omega (arith, long, longer, none, length-append t.bytes more))))
    (λ (no : old.word ≡ false). ap (λ (l : List ℕ). length l == 0) (other no) ∙ some)
    (cases_Bool old.word)
