-- Reading what a text begins with: a word, a number, parts one after another.
use Rattle.std.proofs.Common.{◌≡◌, ℕ, ◌+◌, ◌<◌, ◌≤◌, ◌==◌, Bool, true, false, not, List, [], ◌∷◌, ◌++◌, length, drop, All, refl, sym, ap, ◌∙◌, ⊎_elim, arith, true≢false, drop-drop, drop_at, append_assoc, eq-eqb, eqb-true, ne_eqb, leb-true, ltb-true, lt-ltb, nat_lt, nat_le, ℤ, ◌≤ℤ◌, Ok}
use Rattle.std.specs.Char.{is_ascii_digit}
use Rattle.std.specs.List.{prefix_len, list_all}
use Rattle.std.specs.Prelude.{slice_get, is_none, map, flat_map}
use Rattle.std.specs.Str.{all_ascii_digits}
use Rattle.std.proofs.lemmas.Bool.{cases_Bool, and_parts, not-true}
use Rattle.std.proofs.lemmas.Int.{ints}
use Rattle.std.proofs.lemmas.List.Elements.{All-head, All-tail}
use Rattle.text_scan.specs.Parts.{Read, ◌>>=◌}
use Rattle.text_scan.specs.Tokens.{is_blank, tokens_from, is_gap, is_word, ends_word}
use Rattle.text_scan.specs.Numbers.{is_sign, is_number, is_within}
use Rattle.text_scan.specs.Reading.{Reading, left, tokens_left, past, past_blanks, next_byte, is_next, past_token, past_byte}
use Rattle.text_scan.specs.Until.{parts_until}
use Rattle.text_scan.proofs.Bounds.{Takes, parts-none, parts-one}
use Rattle.text_scan.proofs.Words.{tokens_after_gap, word_is_token}

-- reading a part answers this value, and this is left of the text then
pub record Leads {A F : Type 0} (answer : Read Reading F A) (value : A) (rest : List ℕ) : Type 0 where
  pub after : Reading
  pub reads : answer ≡ Ok (value, after)
  pub leaves : left after ≡ rest

-- one part, and then another
pub leads-then : {A B F : Type 0} {answer : Read Reading F A} {x : A} {between rest : List ℕ} {y : B} (f : A × Reading → Read Reading F B) →
    Leads answer x between → ((r : Reading) → left r ≡ between → Leads (f (x, r)) y rest) → Leads (answer >>= f) y rest
leads-then f first then =
    let next = then first.after first.leaves in
    record { after = next.after; reads = ap (λ a. a >>= f) first.reads ∙ next.reads; leaves = next.leaves }

-- what stands behind a part is left after as many bytes
pub left_past : (r : Reading) (part rest : List ℕ) → left r ≡ part ++ rest → left (past (length part) r) ≡ rest
left_past r part rest here = sym (drop-drop (length part) r.place r.text) ∙ ap (drop (length part)) here ∙ drop_at part rest (length part) refl

-- the blanks before a word are those of the gap
blanks_before_word : (gap word rest : List ℕ) → is_gap gap ≡ true → is_word word ≡ true → prefix_len is_blank (gap ++ (word ++ rest)) ≡ length gap
blanks_before_word [] [] rest blank is = absurd (true≢false (sym is))
blanks_before_word [] (b ∷ bs) rest blank is =
    let first = and_parts (not (is_blank b)) (list_all (λ x. not (is_blank x)) bs) (and_parts (nat_lt 0 (length (b ∷ bs))) (list_all (λ x. not (is_blank x)) (b ∷ bs)) is).1 in
    rw (not-true (is_blank b) first.0) refl
blanks_before_word (b ∷ bs) word rest blank is =
    let parts = and_parts (is_blank b) (is_gap bs) blank in
    rw parts.0 (omega (arith, blanks_before_word bs word rest parts.1 is))

module _ (r : Reading) (gap word rest : List ℕ) (blank : is_gap gap ≡ true) (is : is_word word ≡ true) (here : left r ≡ gap ++ (word ++ rest)) where
  -- after the blanks the word is left
  pub left_past_blanks : left (past_blanks r) ≡ word ++ rest
  left_past_blanks = ap (λ n. left (past n r)) (ap (prefix_len is_blank) here ∙ blanks_before_word gap word rest blank is) ∙ left_past r gap (word ++ rest) here

  -- its first byte is the next
  pub next_is_first : next_byte r ≡ slice_get (word ++ rest) 0
  next_is_first = ap (λ bs. slice_get bs 0) left_past_blanks

  -- it is the next token
  pub word_is_next : ends_word rest ≡ true → tokens_left r ≡ record { place = r.place + length gap; bytes = word } ∷ tokens_from (r.place + length gap + length word) rest
  word_is_next ends = ap (tokens_from r.place) here ∙ tokens_after_gap r.place gap (word ++ rest) blank ∙ word_is_token (r.place + length gap) word rest is ends

  -- what stands behind it is left after it
  pub left_past_token : ends_word rest ≡ true → left (past_token r) ≡ rest
  left_past_token ends = rw (word_is_next ends) (left_past (past (length gap) r) word rest (left_past r gap (word ++ rest) here))

-- a byte that comes next is found, and passed over
pub byte_is_next : (b : ℕ) (r : Reading) (gap rest : List ℕ) → is_gap gap ≡ true → is_word (b ∷ []) ≡ true → left r ≡ gap ++ (b ∷ rest) → (is_next b r ≡ true) × (left (past_byte b r) ≡ rest)
byte_is_next b r gap rest blank is here =
    let next : is_next b r ≡ true = rw (next_is_first r gap (b ∷ []) rest blank is here) (eq-eqb b b refl) in
    (next, rw next (left_past (past_blanks r) (b ∷ []) rest (left_past_blanks r gap (b ∷ []) rest blank is here)))

-- where another one comes next, only the blanks are passed over
pub other_is_next : (b c : ℕ) (r : Reading) (gap rest : List ℕ) → is_gap gap ≡ true → is_word (c ∷ []) ≡ true → (c == b) ≡ false → left r ≡ gap ++ (c ∷ rest) → (is_next b r ≡ false) × (left (past_byte b r) ≡ c ∷ rest)
other_is_next b c r gap rest blank is other here =
    let next : is_next b r ≡ false = rw (next_is_first r gap (c ∷ []) rest blank is here) other in
    (next, rw next (left_past_blanks r gap (c ∷ []) rest blank is here))

-- where a word is left, so is a byte
pub word_is_left : (r : Reading) (gap word rest : List ℕ) → is_gap gap ≡ true → is_word word ≡ true → left r ≡ gap ++ (word ++ rest) → is_none (next_byte r) ≡ false
word_is_left r gap [] rest blank is here = absurd (true≢false (sym is))
word_is_left r gap (b ∷ bs) rest blank is here = ap is_none (next_is_first r gap (b ∷ bs) rest blank is here)

-- where blanks alone are left, none is
pub gap_is_left : (r : Reading) (gap : List ℕ) → is_gap gap ≡ true → left r ≡ gap ++ [] → (is_none (next_byte r) ≡ true) × (left (past_blanks r) ≡ [])
gap_is_left r gap blank here =
    let none : left (past_blanks r) ≡ [] = ap (λ n. left (past n r)) (ap (prefix_len is_blank) here ∙ all_blanks gap blank) ∙ left_past r gap [] here in
    (ap (λ (bytes : List ℕ). is_none (slice_get bytes 0)) none, none)
  where
    all_blanks : (bytes : List ℕ) → is_gap bytes ≡ true → prefix_len is_blank (bytes ++ []) ≡ length bytes
    all_blanks [] blanks = refl
    all_blanks (b ∷ bs) blanks = let parts = and_parts (is_blank b) (is_gap bs) blanks in rw parts.0 (omega (arith, all_blanks bs parts.1))

not_blank : (b : ℕ) → is_ascii_digit b ≡ true → is_blank b ≡ false
not_blank b digit =
    let low : 48 ≤ b = leb-true 48 b (and_parts (nat_le 48 b) (nat_le b 57) digit).0 in
    rw (ne_eqb b 32 (λ same. omega arith), ne_eqb b 9 (λ same. omega arith), ne_eqb b 13 (λ same. omega arith), ne_eqb b 10 (λ same. omega arith)) refl

digits_are_no_blanks : (ds : List ℕ) → all_ascii_digits ds ≡ true → list_all (λ b. not (is_blank b)) ds ≡ true
digits_are_no_blanks [] digits = refl
digits_are_no_blanks (d ∷ ds) digits =
    let parts = and_parts (is_ascii_digit d) (all_ascii_digits ds) digits in
    rw (not_blank d parts.0) (digits_are_no_blanks ds parts.1)

sign_is_no_blank : (b : ℕ) → is_sign b ≡ true → is_blank b ≡ false
sign_is_no_blank b sign = ⊎_elim
    (λ (plus : (b == 43) ≡ true). rw (eqb-true b 43 plus) refl)
    (λ (other : (b == 43) ≡ false). rw (eqb-true b 45 (rw other at sign)) refl)
    (cases_Bool (b == 43))

-- a number holds no blank
pub number_is_word : (number : List ℕ) → is_number number ≡ true → is_word number ≡ true
number_is_word [] is = absurd (true≢false (sym is))
number_is_word (b ∷ bs) is = ⊎_elim
    (λ (sign : is_sign b ≡ true).
    let digits = (and_parts (nat_lt 0 (length bs)) (all_ascii_digits bs) (rw sign at is)).1 in
    rw (lt-ltb 0 (length (b ∷ bs)) (omega arith), sign_is_no_blank b sign) (digits_are_no_blanks bs digits))
    (λ (plain : is_sign b ≡ false).
    let digits = (and_parts (nat_lt 0 (length (b ∷ bs))) (all_ascii_digits (b ∷ bs)) (rw plain at is)).1 in
    rw (lt-ltb 0 (length (b ∷ bs)) (omega arith)) (digits_are_no_blanks (b ∷ bs) digits))
    (cases_Bool (is_sign b))

pub word_is_long : (word : List ℕ) → is_word word ≡ true → 0 < length word
word_is_long word is = ltb-true 0 (length word) (and_parts (nat_lt 0 (length word)) (list_all (λ b. not (is_blank b)) word) is).0

-- a number between two others is within them
pub within_them : (lo hi z : ℤ) → lo ≤ℤ z → z ≤ℤ hi → is_within lo hi z ≡ true
within_them lo hi z low high = grind (arith, ints)

module _ {A F : Type 0} (ended : Reading → Bool) (looked : Reading → Reading) (part : Reading → Read Reading F A)
    (takes : (r : Reading) → Takes 1 r (part (looked r)))
    {X : Type 0} (Fits : X → Type 0) (text : X → List ℕ) (value : X → A) (behind : List ℕ) (blank : is_gap behind ≡ true) where
  -- the text of one part is read back up to blanks behind it, wherever it is left after blanks
  abbrev pub ReadsBack : X → Type 0
  ReadsBack x = (r : Reading) (gap rest : List ℕ) → is_gap gap ≡ true → left r ≡ gap ++ (text x ++ rest) → (ended r ≡ false) × Leads (part (looked r)) (value x) (behind ++ rest)

  -- so is a text of parts, up to where they end
  pub parts_lead : ((x : X) → Fits x → ReadsBack x) → (end rest : List ℕ) →
      ((r : Reading) (gap : List ℕ) → is_gap gap ≡ true → left r ≡ gap ++ end → (ended r ≡ true) × (left (looked r) ≡ rest)) →
      (xs : List X) → All Fits xs → (r : Reading) (gap : List ℕ) → is_gap gap ≡ true → left r ≡ gap ++ (flat_map text xs ++ end) → Leads (parts_until ended looked part r) (map value xs) rest
  parts_lead each end rest last [] all r gap is here =
      let over = last r gap is here in
      record { after = looked r; reads = parts-none ended looked part takes r over.0; leaves = over.1 }
  parts_lead each end rest last (x ∷ xs) all r gap is here =
      let one = each x (All-head Fits x xs all) r gap (flat_map text xs ++ end) is (here ∙ ap (λ bytes. gap ++ bytes) (append_assoc (text x) (flat_map text xs) end)) in
      let more = parts_lead each end rest last xs (All-tail Fits x xs all) one.1.after behind blank one.1.leaves in
      record {
        after = more.after;
        reads = parts-one ended looked part takes r one.0 ∙ rw (one.1.reads, more.reads) refl;
        leaves = more.leaves;
      }
