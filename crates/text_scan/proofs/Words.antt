-- Tokens and numbers of a text that is put together.
use Rattle.std.proofs.Common.{◌≡◌, ℕ, suc, ◌+◌, ◌<◌, ◌≤◌, ◌==◌, Bool, true, false, not, ◌&&◌, List, [], ◌∷◌, ◌++◌, length, take, drop, get_or, refl, sym, ap, ◌∙◌, ⊎_elim, arith, one-add, add-zero, zero-add, true≢false, neg_ℤ, length-append, take_at, drop_at, ltb-true, lt-ltb, leb-true, ne_eqb, nat_lt, nat_le, ℤ, pos, negsuc, decimal, FitsSigned}
use Rattle.std.specs.Char.{is_ascii_digit}
use Rattle.std.specs.Fmt.{signed_decimal}
use Rattle.std.specs.Int.{w128}
use Rattle.std.specs.List.{prefix_len, position_or_len, list_all}
use Rattle.std.specs.Str.{all_ascii_digits}
use Rattle.std.proofs.lemmas.Bool.{cases_Bool, and_parts, not-true}
use Rattle.std.proofs.lemmas.Fmt.{decimal_is_IsNumeral_wide}
use Rattle.text_scan.specs.Tokens.{is_blank, Token, tokens_from, is_gap, is_word, ends_word}
use Rattle.text_scan.specs.Numbers.{is_sign, is_number, value_of, number_front, ends_number}
use Rattle.text_scan.proofs.Digits.{numerals}
use Rattle.text_scan.proofs.Tokens.{tokens_after_blank, tokens_of_run}

-- nothing, or a first element that fails the test
abbrev Stops : (ℕ → Bool) → List ℕ → Type 0
Stops test [] = Unit {0}
Stops test (y ∷ ys) = test y ≡ false

-- elements that pass, before one that fails, are the longest front that passes
longest_front : (test : ℕ → Bool) (xs ys : List ℕ) → list_all test xs ≡ true → Stops test ys → prefix_len test (xs ++ ys) ≡ length xs
longest_front test [] [] all stops = refl
longest_front test [] (y ∷ ys) all stops = rw stops refl
longest_front test (x ∷ xs) ys all stops =
    let parts = and_parts (test x) (list_all test xs) all in
    rw (parts.0, one-add) (ap suc (longest_front test xs ys parts.1 stops))

-- blanks hold no token
pub no_token_in_gap : (place : ℕ) (gap : List ℕ) → is_gap gap ≡ true → tokens_from place gap ≡ []
no_token_in_gap place [] blank = refl
no_token_in_gap place (b ∷ bs) blank =
    let parts = and_parts (is_blank b) (is_gap bs) blank in
    tokens_after_blank place b bs parts.0 ∙ no_token_in_gap (place + 1) bs parts.1

-- nor change what stands behind them
pub tokens_after_gap : (place : ℕ) (gap bytes : List ℕ) → is_gap gap ≡ true → tokens_from place (gap ++ bytes) ≡ tokens_from (place + length gap) bytes
tokens_after_gap place [] bytes blank = ap (λ p. tokens_from p bytes) (sym (add-zero place))
tokens_after_gap place (b ∷ bs) bytes blank =
    let parts = and_parts (is_blank b) (is_gap bs) blank in
    tokens_after_blank place b (bs ++ bytes) parts.0 ∙ tokens_after_gap (place + 1) bs bytes parts.1 ∙ ap (λ p. tokens_from p bytes) (omega arith)

stops_at_blank : (rest : List ℕ) → ends_word rest ≡ true → Stops (λ b. not (is_blank b)) rest
stops_at_blank [] ends = tt
stops_at_blank (b ∷ bs) ends = ap not ends

first_of_word : (run rest : List ℕ) → is_word run ≡ true → is_blank (get_or (run ++ rest) 0 0) ≡ false
first_of_word [] rest word = absurd (true≢false (sym word))
first_of_word (b ∷ bs) rest word =
    let parts = and_parts (nat_lt 0 (suc (length bs))) (not (is_blank b) && list_all (λ x. not (is_blank x)) bs) word in
    not-true (is_blank b) (and_parts (not (is_blank b)) (list_all (λ x. not (is_blank x)) bs) parts.1).0

-- a word before a blank or the end is a token
pub word_is_token : (place : ℕ) (run rest : List ℕ) → is_word run ≡ true → ends_word rest ≡ true →
    tokens_from place (run ++ rest) ≡ record { place = place; bytes = run } ∷ tokens_from (place + length run) rest
word_is_token place run rest word ends =
    let parts = and_parts (nat_lt 0 (length run)) (list_all (λ b. not (is_blank b)) run) word in
    let more : 0 < length run = ltb-true 0 (length run) parts.0 in
    let long : position_or_len is_blank (run ++ rest) ≡ length run = longest_front (λ b. not (is_blank b)) run rest parts.1 (stops_at_blank rest ends) in
    let here : ℕ → List Token = λ n. record { place = place; bytes = take n (run ++ rest) } ∷ tokens_from (place + n) (drop n (run ++ rest)) in
    tokens_of_run place (run ++ rest) (omega (arith, length-append run rest)) (first_of_word run rest word)
    ∙ ap here long
    ∙ ap (λ (bytes : List ℕ). record { place = place; bytes = bytes } ∷ tokens_from (place + length run) (drop (length run) (run ++ rest))) (take_at run rest (length run) refl)
    ∙ ap (λ (bytes : List ℕ). record { place = place; bytes = run } ∷ tokens_from (place + length run) bytes) (drop_at run rest (length run) refl)

stops_at_no_digit : (rest : List ℕ) → ends_number rest ≡ true → Stops is_ascii_digit rest
stops_at_no_digit [] ends = tt
stops_at_no_digit (b ∷ bs) ends = not-true (is_ascii_digit b) ends

-- the two tests of digits are one
digits_listed : (ds : List ℕ) → list_all is_ascii_digit ds ≡ all_ascii_digits ds
digits_listed [] = refl
digits_listed (d ∷ ds) = ap (λ rest. is_ascii_digit d && rest) (digits_listed ds)

-- a number before what is no digit is the number that the text begins with
pub number_is_front : (number rest : List ℕ) → is_number number ≡ true → ends_number rest ≡ true → number_front (number ++ rest) ≡ number
number_is_front [] rest number ends = absurd (true≢false (sym number))
number_is_front (b ∷ bs) rest number ends = ⊎_elim
    (λ (sign : is_sign b ≡ true).
    let digits = (and_parts (nat_lt 0 (length bs)) (all_ascii_digits bs) (rw sign at number)).1 in
    let long = longest_front is_ascii_digit bs rest (digits_listed bs ∙ digits) (stops_at_no_digit rest ends) in
    rw (sign, one-add) (ap (λ bytes. b ∷ bytes) (ap (λ n. take n (bs ++ rest)) long ∙ take_at bs rest (length bs) refl)))
    (λ (plain : is_sign b ≡ false).
    let digits = (and_parts (nat_lt 0 (length (b ∷ bs))) (all_ascii_digits (b ∷ bs)) (rw plain at number)).1 in
    let long = longest_front is_ascii_digit (b ∷ bs) rest (digits_listed (b ∷ bs) ∙ digits) (stops_at_no_digit rest ends) in
    rw (plain, zero-add) (ap (λ n. take n (b ∷ (bs ++ rest))) long ∙ take_at (b ∷ bs) rest (length (b ∷ bs)) refl))
    (cases_Bool (is_sign b))

digits_have_no_sign : (ds : List ℕ) → all_ascii_digits ds ≡ true → ((get_or ds 0 0 == 43) ≡ false) × ((get_or ds 0 0 == 45) ≡ false)
digits_have_no_sign [] digits = (refl, refl)
digits_have_no_sign (d ∷ ds) digits =
    let first = (and_parts (is_ascii_digit d) (all_ascii_digits ds) digits).0 in
    let low : 48 ≤ d = leb-true 48 d (and_parts (nat_le 48 d) (nat_le d 57) first).0 in
    (ne_eqb d 43 (λ same. omega arith), ne_eqb d 45 (λ same. omega arith))

-- a printed number is one, and has its value
pub printed_number : (z : ℤ) → FitsSigned w128 z → (is_number (signed_decimal z) ≡ true) × (value_of (signed_decimal z) ≡ z)
printed_number (pos n) fits =
    let numeral = decimal_is_IsNumeral_wide n (omega (arith, fits.sfits)) in
    let digits : all_ascii_digits (decimal n) ≡ true = numerals.from (decimal n) numeral.0.1 in
    let plain = digits_have_no_sign (decimal n) digits in
    (rw (plain.0, plain.1, lt-ltb 0 (length (decimal n)) numeral.0.0) digits, rw (plain.0, plain.1) (ap pos numeral.1))
printed_number (negsuc n) fits =
    let numeral = decimal_is_IsNumeral_wide (suc n) (omega (arith, fits.sfits)) in
    let digits : all_ascii_digits (decimal (suc n)) ≡ true = numerals.from (decimal (suc n)) numeral.0.1 in
    (rw (lt-ltb 0 (length (decimal (suc n))) numeral.0.0) digits, ap (λ v. neg_ℤ (pos v)) numeral.1)
