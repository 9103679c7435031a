-- The value of decimal digits, one digit at a time.
use Rattle.std.proofs.Common.{◌≡◌, ℕ, ◌+◌, ◌-◌, ◌*◌, ◌^◌, ◌<◌, ◌≤◌, true, false, ◌==◌, ◌&&◌, one-add, ⊎_elim, sym, suc, ne_eqb, List, [], ◌∷◌, length, get_or, take, drop, refl, ap, ◌∙◌, arith, length-drop, length-take, get_or-drop}
use Rattle.std.specs.List.{prefix_len}
use Rattle.std.proofs.lemmas.Bool.{cases_Bool}
use Rattle.std.proofs.lemmas.List.Folds.{list_all_more}
use Rattle.std.specs.Char.{digit_value, is_ascii_digit}
use Rattle.std.specs.Str.{all_ascii_digits}
use Rattle.std.specs.Str.Parse.{digits_value}
use Rattle.std.proofs.lemmas.Int.Digits.{digits_value_more}
use Rattle.std.proofs.lemmas.Str.Parse.{IsNumeralModel, numerals_by_value, tells_all_ascii_digits, digit_at, digits_value_short, digits_value-take-le}

-- the test of digits and their value are the library's
pub numerals : IsNumeralModel (λ ds. all_ascii_digits ds ≡ true) (digits_value 10)
numerals = numerals_by_value _ tells_all_ascii_digits

-- each byte of a numeral is a digit
pub digit_in : (ds : List ℕ) (i : ℕ) → all_ascii_digits ds ≡ true → i < length ds → (48 ≤ get_or ds i 0) × (get_or ds i 0 ≤ 57)
digit_in ds i all inside = digit_at ds i (numerals.to ds all) inside

digit_value_is : (c : ℕ) → 48 ≤ c → c ≤ 57 → digit_value c ≡ c - 48
digit_value_is c low high = grind arith

-- the value of one digit more
pub value_more : (ds : List ℕ) (i : ℕ) → all_ascii_digits ds ≡ true → i < length ds → digits_value 10 (take (i + 1) ds) ≡ digits_value 10 (take i ds) * 10 + (get_or ds i 0 - 48)
value_more ds i all inside =
    let d = digit_in ds i all inside in
    digits_value_more 10 ds i inside ∙ ap (λ n. digits_value 10 (take i ds) * 10 + n) (digit_value_is _ d.0 d.1)

-- the value of a front of at most k digits
pub value_front : (ds : List ℕ) (i k : ℕ) → all_ascii_digits ds ≡ true → length ds ≤ k → digits_value 10 (take i ds) < 10 ^ k
value_front ds i k all short = omega (arith, digits_value-take-le 10 ds i (omega arith), digits_value_short numerals ds k all short)

-- all bytes are digits where the longest front of digits is all of them
pub all_digits : (ds : List ℕ) → all_ascii_digits ds ≡ (prefix_len is_ascii_digit ds == length ds)
all_digits [] = refl
all_digits (d ∷ ds) = ⊎_elim
    (λ (e : is_ascii_digit d ≡ true). rw (e, one-add) (all_digits ds ∙ grind arith))
    (λ (e : is_ascii_digit d ≡ false). rw e (sym (ne_eqb 0 (suc (length ds)) (λ h. omega arith))))
    (cases_Bool (is_ascii_digit d))

-- the byte at a place of a text, counted from one before it
byte_behind : (text : List ℕ) (at i : ℕ) → at ≤ i → get_or (drop at text) (i - at) 0 ≡ get_or text i 0
byte_behind text at i from = get_or-drop at text (i - at) 0 ∙ ap (λ k. get_or text k 0) (omega arith)

-- digits from a place on, and one behind them: all are digits
pub more_digits : (text : List ℕ) (at i : ℕ) → at ≤ i → i < length text → is_ascii_digit (get_or text i 0) ≡ true →
    all_ascii_digits (take (i - at) (drop at text)) ≡ true → all_ascii_digits (take (i + 1 - at) (drop at text)) ≡ true
more_digits text at i from inside digit all =
    let rest = drop at text in
    ap (λ k. all_ascii_digits (take k rest)) (omega arith)
    ∙ list_all_more is_ascii_digit rest (i - at) 0 (omega (arith, length-drop at text))
    ∙ ap (λ b. b && is_ascii_digit (get_or rest (i - at) 0)) all
    ∙ ap is_ascii_digit (byte_behind text at i from) ∙ digit

-- and their value
pub value_behind : (text : List ℕ) (at i : ℕ) → at ≤ i → i < length text → 48 ≤ get_or text i 0 → get_or text i 0 ≤ 57 →
    digits_value 10 (take (i + 1 - at) (drop at text)) ≡ digits_value 10 (take (i - at) (drop at text)) * 10 + (get_or text i 0 - 48)
value_behind text at i from inside low high =
    let rest = drop at text in
    ap (λ k. digits_value 10 (take k rest)) (omega arith)
    ∙ digits_value_more 10 rest (i - at) (omega (arith, length-drop at text))
    ∙ ap (λ d. digits_value 10 (take (i - at) rest) * 10 + digit_value d) (byte_behind text at i from)
    ∙ ap (λ n. digits_value 10 (take (i - at) rest) * 10 + n) (digit_value_is (get_or text i 0) low high)

-- the value of at most 18 digits
pub value_of_few : (ds : List ℕ) (n : ℕ) → n ≤ 18 → all_ascii_digits (take n ds) ≡ true → digits_value 10 (take n ds) < 10 ^ 18
value_of_few ds n few all = digits_value_short numerals (take n ds) 18 all (omega (arith, length-take n ds))
