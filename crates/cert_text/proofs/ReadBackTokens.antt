-- Reading back the words, numbers and fractions of a written certificate.
use Rattle.std.proofs.Common.{◌≡◌, ℕ, ◌+◌, ◌<◌, ◌≤◌, ◌^◌, ◌==◌, Bool, true, false, not, List, [], ◌∷◌, ◌++◌, length, take, refl, sym, ap, ◌∙◌, true≢false, arith, pos, length-append, append_assoc, take_at, drop_at, ne_eqb, leb-true, lt-ltb, le-leb, nat_lt, nat_le, Ok}
use Rattle.std.specs.Prelude.{codes, decimal, Option, Some, None, option_map}
use Rattle.std.specs.Char.{is_ascii_digit}
use Rattle.std.specs.List.{position_or_len, list_all}
use Rattle.std.specs.Str.{bytes_eq}
use Rattle.std.specs.Str.Parse.{digits_value}
use Rattle.std.proofs.lemmas.Bool.{and_parts}
use Rattle.std.proofs.lemmas.Fmt.{decimal_is_IsNumeral_wide}
use Rattle.std.proofs.lemmas.List.Folds.{list_all-append}
use Rattle.std.proofs.lemmas.Slice.Eq.{bytes_eq-Decides}
use Rattle.text_scan.specs.Reading.{Reading, left, past_token}
use Rattle.text_scan.specs.Tokens.{is_blank, is_gap, is_word, ends_word}
use Rattle.text_scan.proofs.Digits.{numerals}
use Rattle.text_scan.proofs.Ranges.{within_is}
use Rattle.text_scan.proofs.Texts.{Leads, word_is_next, left_past_token, number_is_word, word_is_long}
use Rattle.text_scan.proofs.Words.{printed_number}
use Rattle.fractions.specs.Limits.{numerator_limit}
use Rattle.fractions.specs.declared.fraction.Fraction.{Fraction}
use Rattle.cert_text.specs.declared.cert_error.CertError.{CertError}
use Rattle.cert_text.specs.declared.ratio.Ratio.{Ratio}
use Rattle.cert_text.specs.declared.version.Version.{Version}
use Rattle.cert_text.specs.declared.version.Version.TheVariants.{One, Two}
use Rattle.cert_text.specs.CertText.{fraction_text}
use Rattle.cert_text.specs.CertTokens.{any_token_at, fixed_word_at, version_at, digits_at, limited_at, is_ratio_within, fraction_in, fraction_at}
use Rattle.cert_text.specs.Certs.{AreFractionsWithin}
use Rattle.cert_text.specs.Digits.{is_digits, is_slash, before_slash, behind_slash}
use Rattle.cert_text.specs.Versions.{version_text, denominator_limit}
use Rattle.cert_text.proofs.DigitLists.{digits_listed}

-- the first token is this word, and this is left behind it
pub record IsFound (r : Reading) (word rest : List ℕ) : Type 0 where
  pub place : ℕ
  pub found : any_token_at r ≡ Ok (record { place = place; bytes = word }, past_token r)
  pub leaves : left (past_token r) ≡ rest

-- a word behind blanks
pub word_is_found : (r : Reading) (gap word rest : List ℕ) → is_gap gap ≡ true → is_word word ≡ true → ends_word rest ≡ true → left r ≡ gap ++ (word ++ rest) → IsFound r word rest
word_is_found r gap word rest blank is ends here = record {
  place = r.place + length gap;
  found = rw (word_is_next r gap word rest blank is here ends) refl;
  leaves = left_past_token r gap word rest blank is here ends;
}

-- a fixed word is read
pub fixed_word_leads : (word : List ℕ) (r : Reading) (rest : List ℕ) → IsFound r word rest → Leads (fixed_word_at word r) tt rest
unfolding fixed_word_at
fixed_word_leads word r rest f = record { after = past_token r; reads = rw (f.found, (bytes_eq-Decides word word).1 refl) refl; leaves = f.leaves }

-- a version
pub version_is_word : (v : Version) → is_word (version_text v) ≡ true
version_is_word One = refl
version_is_word Two = refl

pub version_leads : (v : Version) (r : Reading) (rest : List ℕ) → IsFound r (version_text v) rest → Leads (version_at r) v rest
unfolding version_at
version_leads One r rest f = record { after = past_token r; reads = rw f.found refl; leaves = f.leaves }
version_leads Two r rest f = record { after = past_token r; reads = rw f.found refl; leaves = f.leaves }

-- a printed number is a word of digits, and has its value
pub record IsPrinted (n : ℕ) : Type 0 where
  pub digits : is_digits (decimal n) ≡ true
  pub value : digits_value 10 (decimal n) ≡ n
  pub word : is_word (decimal n) ≡ true

pub printed : (n : ℕ) → n < 2 ^ 71 → IsPrinted n
printed n small =
    let numeral = decimal_is_IsNumeral_wide n (omega (arith, small)) in
    let spelled = printed_number (pos n) (omega (arith, small)) in
    record {
      digits = rw (lt-ltb 0 (length (decimal n)) numeral.0.0) (sym (digits_listed (decimal n)) ∙ numerals.from (decimal n) numeral.0.1);
      value = numeral.1;
      word = number_is_word (decimal n) spelled.0;
    }

-- a number within its limits is read
pub limited_leads : (refusal : ℕ → CertError) (lo hi n : ℕ) (r : Reading) (rest : List ℕ) → lo ≤ n → n ≤ hi → hi < 2 ^ 71 → IsFound r (decimal n) rest → Leads (limited_at refusal lo hi r) n rest
unfolding limited_at digits_at
limited_leads refusal lo hi n r rest low high small f =
    let p = printed n (omega (arith, high, small)) in
    record { after = past_token r; reads = rw (f.found, p.digits, p.value, within_is lo hi n low high) refl; leaves = f.leaves }

-- ---- fractions

words_joined : (xs ys : List ℕ) → is_word xs ≡ true → is_word ys ≡ true → is_word (xs ++ ys) ≡ true
words_joined xs ys one other =
    let plain : ℕ → Bool = λ b. not (is_blank b) in
    let a = and_parts (nat_lt 0 (length xs)) (list_all plain xs) one in
    let b = and_parts (nat_lt 0 (length ys)) (list_all plain ys) other in
    rw (lt-ltb 0 (length (xs ++ ys)) (omega (arith, word_is_long xs one, length-append xs ys)), list_all-append plain xs ys, a.1) b.1

low_digit : (d : ℕ) → is_ascii_digit d ≡ true → (48 ≤ d) × (d ≤ 57)
low_digit d digit = let p = and_parts (nat_le 48 d) (nat_le d 57) digit in (leb-true 48 d p.0, leb-true d 57 p.1)

-- digits hold no `/`
slash_after : (ds rest : List ℕ) → list_all is_ascii_digit ds ≡ true → position_or_len is_slash (ds ++ (47 ∷ rest)) ≡ length ds
slash_after [] rest digits = refl
slash_after (d ∷ ds) rest digits =
    let p = and_parts (is_ascii_digit d) (list_all is_ascii_digit ds) digits in
    let low = (low_digit d p.0).0 in
    let other : (d == 47) ≡ false = ne_eqb d 47 (λ same. omega (arith, low)) in
    rw other (omega (arith, slash_after ds rest p.1))

-- the two halves of a fraction
halves : (ds es : List ℕ) → is_digits ds ≡ true → (before_slash (ds ++ codes "/" ++ es) ≡ ds) × (behind_slash (ds ++ codes "/" ++ es) ≡ es)
halves ds es digits =
    let all = (and_parts (nat_lt 0 (length ds)) (list_all is_ascii_digit ds) digits).1 in
    let text : ds ++ codes "/" ++ es ≡ ds ++ (47 ∷ es) = append_assoc ds (47 ∷ []) es in
    let place : position_or_len is_slash (ds ++ codes "/" ++ es) ≡ length ds = ap (position_or_len is_slash) text ∙ slash_after ds es all in (
      rw place (ap (take (length ds)) text ∙ take_at ds (47 ∷ es) (length ds) refl),
      rw place (drop_at (ds ++ (47 ∷ [])) es (length ds + 1) (omega (arith, length-append ds (47 ∷ [])))),
    )

-- digits are not the word `none`
not_none : (ds xs es : List ℕ) → is_digits ds ≡ true → bytes_eq (ds ++ xs ++ es) (codes "none") ≡ false
not_none [] xs es digits = absurd (true≢false (sym digits))
not_none (d ∷ ds) xs es digits =
    let all = (and_parts (nat_lt 0 (length (d ∷ ds))) (list_all is_ascii_digit (d ∷ ds)) digits).1 in
    let high = (low_digit d (and_parts (is_ascii_digit d) (list_all is_ascii_digit ds) all).0).1 in
    rw (ne_eqb d 110 (λ same. omega (arith, high))) refl

-- a fraction as it is written
abbrev pub ratio_of : Fraction → Ratio
ratio_of f = record { num = f.num; den = f.den }

small_den : (v : Version) (den : ℕ) → den ≤ denominator_limit v → den < 2 ^ 71
small_den One den below = omega (arith, below)
small_den Two den below = omega (arith, below)

fraction_read : (v : Version) (f : Fraction) (place : ℕ) → f.den ≤ denominator_limit v → fraction_in v (record { place = place; bytes = fraction_text (Some f) }) ≡ Ok (Some (ratio_of f))
fraction_read v f place below =
    let num = printed f.num (omega (arith, f.lowest.small)) in
    let den = printed f.den (small_den v f.den below) in
    let split = halves (decimal f.num) (decimal f.den) num.digits in
    let limits : is_ratio_within v f.num f.den ≡ true =
    rw (lt-ltb f.num numerator_limit f.lowest.small, le-leb 1 f.den f.lowest.positive, le-leb f.den (denominator_limit v) below) refl in
    rw (not_none (decimal f.num) (codes "/") (decimal f.den) num.digits, split.0, split.1, num.digits, den.digits, num.value, den.value, limits) refl

pub fraction_is_word : (v : Version) (f : Option Fraction) → AreFractionsWithin v f → is_word (fraction_text f) ≡ true
fraction_is_word v None within = refl
fraction_is_word v (Some f) within =
    let num = printed f.num (omega (arith, f.lowest.small)) in
    let den = printed f.den (small_den v f.den (within f refl)) in
    words_joined (decimal f.num ++ codes "/") (decimal f.den) (words_joined (decimal f.num) (codes "/") num.word refl) den.word

-- a fraction, or `none`, is read
pub fraction_leads : (v : Version) (f : Option Fraction) (r : Reading) (rest : List ℕ) → AreFractionsWithin v f → IsFound r (fraction_text f) rest → Leads (fraction_at v r) (option_map ratio_of f) rest
unfolding fraction_at
fraction_leads v None r rest within found = record { after = past_token r; reads = rw found.found refl; leaves = found.leaves }
fraction_leads v (Some f) r rest within found = record {
  after = past_token r;
  reads = rw (found.found, fraction_read v f found.place (within f refl)) refl;
  leaves = found.leaves;
}
