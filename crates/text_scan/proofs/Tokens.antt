-- What follows of the tokens of a text.
use Rattle.std.proofs.Common.{◌≡◌, ℕ, suc, ◌+◌, ◌<◌, ◌≤◌, true, false, List, [], ◌∷◌, length, take, drop, get_or, refl, sym, ap, ◌∙◌, arith, ◌==◌, le_refl, one-add, add-zero, ⊎_elim, eq-eqb, ne_eqb, eqb-true, lt-ltb, nat_lt, not, subst}
use Rattle.std.specs.List.{prefix_len, position_or_len, list_all, AllByRecursion}
use Rattle.std.proofs.lemmas.Bool.{cases_Bool, and_from, and_parts}
use Rattle.text_scan.specs.Tokens.{is_blank, Token, with_byte, tokens_from, is_word, StandsWithin}

-- a blank in front is no part of a token
pub tokens_after_blank : (p b : ℕ) (bs : List ℕ) → is_blank b ≡ true → tokens_from p (b ∷ bs) ≡ tokens_from (p + 1) bs
tokens_after_blank p b bs e = rw e refl

-- nor are any blanks
pub tokens_after_blanks : (p : ℕ) (bs : List ℕ) → tokens_from p bs ≡ tokens_from (p + prefix_len is_blank bs) (drop (prefix_len is_blank bs) bs)
tokens_after_blanks p [] = refl
tokens_after_blanks p (b ∷ bs) = ⊎_elim
    (λ (e : is_blank b ≡ true).
    tokens_after_blank p b bs e ∙ tokens_after_blanks (p + 1) bs
    ∙ rw (e, one-add) (ap (λ q. tokens_from q (drop (prefix_len is_blank bs) bs)) (omega arith)))
    (λ (e : is_blank b ≡ false). rw (e, add-zero, e) refl)
    (cases_Bool (is_blank b))

-- a byte that is no blank makes a word of a word, or of nothing
word_with_byte : (b : ℕ) (bytes : List ℕ) → is_blank b ≡ false → list_all (λ x. not (is_blank x)) bytes ≡ true → is_word (b ∷ bytes) ≡ true
word_with_byte b bytes e rest = and_from _ _ (lt-ltb 0 (length (b ∷ bytes)) (omega arith)) (and_from (not (is_blank b)) _ (ap not e) rest)

stand_within_more : (from to : ℕ) (ts : List Token) → AllByRecursion (StandsWithin (from + 1) to) ts → AllByRecursion (StandsWithin from to) ts
stand_within_more from to [] all = tt
stand_within_more from to (t ∷ ts) all = ((all.0.0, omega (arith, all.0.1), all.0.2), stand_within_more from to ts all.1)

with_byte_stand_within : (place b to : ℕ) (ts : List Token) → is_blank b ≡ false → place + 1 ≤ to → AllByRecursion (StandsWithin (place + 1) to) ts → AllByRecursion (StandsWithin place to) (with_byte place b ts)
with_byte_stand_within place b to [] e room all = ((word_with_byte b [] e refl, le_refl place, room), tt)
with_byte_stand_within place b to (t ∷ ts) e room all = ⊎_elim
    (λ (behind : (t.place == place + 1) ≡ true).
    let here = eqb-true t.place (place + 1) behind in
    let word = (and_parts (nat_lt 0 (length t.bytes)) (list_all (λ x. not (is_blank x)) t.bytes) all.0.0).1 in
    rw behind ((word_with_byte b t.bytes e word, le_refl place, omega (arith, all.0.2)), stand_within_more place to ts all.1))
    (λ (apart : (t.place == place + 1) ≡ false).
    rw apart ((word_with_byte b [] e refl, le_refl place, room), stand_within_more place to (t ∷ ts) all))
    (cases_Bool (t.place == place + 1))

-- each token is a word that stands in the text
pub tokens_stand_within : (place : ℕ) (bytes : List ℕ) → AllByRecursion (StandsWithin place (place + length bytes)) (tokens_from place bytes)
tokens_stand_within place [] = tt
tokens_stand_within place (b ∷ bs) =
    let to : ℕ = place + length (b ∷ bs) in
    let end : place + 1 + length bs ≡ to = omega arith in
    let P : ℕ → Type 0 = λ n. AllByRecursion (StandsWithin (place + 1) n) (tokens_from (place + 1) bs) in
    let rest = subst P end (tokens_stand_within (place + 1) bs) in
    ⊎_elim
    (λ (e : is_blank b ≡ true). rw e (stand_within_more place to (tokens_from (place + 1) bs) rest))
    (λ (e : is_blank b ≡ false). rw e (with_byte_stand_within place b to (tokens_from (place + 1) bs) e (omega arith) rest))
    (cases_Bool (is_blank b))

-- before tokens that begin later a byte is one alone
alone : (p b to : ℕ) (ts : List Token) → AllByRecursion (StandsWithin (p + 1 + 1) to) ts → with_byte p b ts ≡ record { place = p; bytes = b ∷ [] } ∷ ts
alone p b to [] h = refl
alone p b to (t ∷ ts) h = rw (ne_eqb t.place (p + 1) (λ e. omega (arith, h.0.1))) refl

-- before a token that begins right behind it, it joins that one
joins : (p b : ℕ) (bytes : List ℕ) (ts : List Token) → with_byte p b (record { place = p + 1; bytes = bytes } ∷ ts) ≡ record { place = p; bytes = b ∷ bytes } ∷ ts
joins p b bytes ts = rw (eq-eqb (p + 1) (p + 1) refl) refl

-- a byte that is no blank begins a token, which goes up to the next blank
tokens_of_word : (p b : ℕ) (bs : List ℕ) → is_blank b ≡ false →
    tokens_from p (b ∷ bs) ≡ record { place = p; bytes = b ∷ take (position_or_len is_blank bs) bs } ∷ tokens_from (p + 1 + position_or_len is_blank bs) (drop (position_or_len is_blank bs) bs)
tokens_of_word p b [] e = rw e refl
tokens_of_word p b (c ∷ cs) e = ⊎_elim
    (λ (f : is_blank c ≡ true). rw (e, f, add-zero, f) (alone p b _ _ (tokens_stand_within (p + 1 + 1) cs)))
    (λ (f : is_blank c ≡ false).
    let k = position_or_len is_blank cs in
    let n = position_or_len is_blank (c ∷ cs) in
    let more : n ≡ suc k = rw (f, one-add) refl in
    let same : p + 1 + 1 + k ≡ p + 1 + suc k = omega arith in
    let joined : tokens_from p (b ∷ c ∷ cs) ≡ record { place = p; bytes = b ∷ c ∷ take k cs } ∷ tokens_from (p + 1 + 1 + k) (drop k cs) =
    rw e (ap (with_byte p b) (tokens_of_word (p + 1) c cs f) ∙ joins p b _ _) in
    let here : ℕ → ℕ → List Token = λ i q. record { place = p; bytes = b ∷ take i (c ∷ cs) } ∷ tokens_from (p + 1 + q) (drop i (c ∷ cs)) in
    joined ∙ ap (λ q. record { place = p; bytes = b ∷ c ∷ take k cs } ∷ tokens_from q (drop k cs)) same ∙ sym (ap (λ i. here i i) more))
    (cases_Bool (is_blank c))

-- so does text that doesn't begin with a blank
pub tokens_of_run : (p : ℕ) (bs : List ℕ) → 0 < length bs → is_blank (get_or bs 0 0) ≡ false → let n = position_or_len is_blank bs in
    tokens_from p bs ≡ record { place = p; bytes = take n bs } ∷ tokens_from (p + n) (drop n bs)
tokens_of_run p [] h e = absurd (omega arith)
tokens_of_run p (b ∷ bs) h e =
    let k = position_or_len is_blank bs in
    let more : position_or_len is_blank (b ∷ bs) ≡ suc k = rw (e, one-add) refl in
    let same : p + 1 + k ≡ p + suc k = omega arith in
    let here : ℕ → List Token = λ i. record { place = p; bytes = take i (b ∷ bs) } ∷ tokens_from (p + i) (drop i (b ∷ bs)) in
    tokens_of_word p b bs e ∙ ap (λ q. record { place = p; bytes = b ∷ take k bs } ∷ tokens_from q (drop k bs)) same ∙ sym (ap here more)

-- and that first token is not empty
pub run_is_nonempty : (bs : List ℕ) → 0 < length bs → is_blank (get_or bs 0 0) ≡ false → 0 < position_or_len is_blank bs
run_is_nonempty [] h e = absurd (omega arith)
run_is_nonempty (b ∷ bs) h e = rw (e, one-add) (omega arith)
