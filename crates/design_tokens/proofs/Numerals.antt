-- What the bytes of a token are as a number, whether they come one by one or at once.
use Rattle.std.proofs.Common.{◌≡◌, ℕ, zero, suc, take, get_or, ◌+◌, ◌-◌, ◌*◌, ◌<◌, ◌≤◌, ◌==◌, Bool, true, false, ◌⊎◌, inl, inr, ⊎_elim, List, [], ◌∷◌, ◌++◌, length, refl, sym, ap, ◌∙◌, arith, ℤ, pos, neg_ℤ, Result, Ok, Err, if◌then◌else◌}
use Rattle.std.specs.Prelude.{nat_le, nat_lt, ◌&&◌}
use Rattle.std.specs.Char.{is_ascii_digit, digit_value}
use Rattle.std.specs.Str.{all_ascii_digits}
use Rattle.std.specs.Str.Parse.{digits_value, digits_value_after}
use Rattle.std.proofs.lemmas.Bool.{cases_Bool}
use Rattle.std.proofs.lemmas.Bool.Decides.{nat_tests}
use Rattle.std.proofs.lemmas.Int.{ints}
use Rattle.text_scan.specs.Numbers.{is_within}
use Rattle.text_scan.specs.Parts.{◌>>=◌}
use Rattle.text_scan.specs.declared.number.Number.{Number}
use Rattle.text_scan.specs.declared.number_fault.NumberFault.{NumberFault}
use Rattle.text_scan.specs.declared.number_fault.NumberFault.TheVariants.{NotNumber, OutOfRange}
use Rattle.grid_graph.specs.Limits.{max_number}
use Rattle.design_tokens.specs.declared.numeral.Numeral.{Numeral}
use Rattle.design_tokens.specs.declared.numeral.Numeral.TheVariants.{Sign, Digits, Other}
use Rattle.design_tokens.specs.Numerals.{magnitude_after, next_numeral, numeral_behind, numeral_of, signed_number, numeral_number, design_number}

-- one byte more behind others
pub numeral_more : (before : Numeral) (bs : List ℕ) (b : ℕ) → numeral_behind before (bs ++ b ∷ []) ≡ next_numeral (numeral_behind before bs) b
numeral_more before [] b = refl
numeral_more before (d ∷ ds) b = numeral_more (next_numeral before d) ds b

-- more bytes behind others
pub numeral_all : (before : Numeral) (bs more : List ℕ) → numeral_behind before (bs ++ more) ≡ numeral_behind (numeral_behind before bs) more
numeral_all before [] more = refl
numeral_all before (d ∷ ds) more = numeral_all (next_numeral before d) ds more

-- what is no number stays so
pub other_stays : (bs : List ℕ) → numeral_behind Other bs ≡ Other
other_stays [] = refl
other_stays (b ∷ bs) = other_stays bs

-- where some byte makes other bytes no number, all of them are none
pub past_other : (before : Numeral) (bs : List ℕ) (i : ℕ) → i < length bs → next_numeral (numeral_behind before (take i bs)) (get_or bs i 0) ≡ Other → numeral_behind before bs ≡ Other
past_other before [] i short is = absurd (omega arith)
past_other before (b ∷ bs) zero short is = ap (λ (n : Numeral). numeral_behind n bs) is ∙ other_stays bs
past_other before (b ∷ bs) (suc i) short is = past_other (next_numeral before b) bs i (omega (arith, short)) is

-- a magnitude is the value of the digits, or both are too great
abbrev IsMagnitude : ℕ → ℕ → Type 0
IsMagnitude magnitude value = (magnitude ≡ value) ⊎ ((max_number < magnitude) × (max_number < value))

-- the number of this value, where it is one of a design
abbrev in_range : ℕ → Bool → ℕ → Result Number NumberFault
in_range at negative value =
    if is_within (neg_ℤ (pos max_number)) (pos max_number) (signed_number negative value) then Ok (record { value = signed_number negative value; at = at }) else Err (OutOfRange at)

-- a value is one of a design where it is no greater than the greatest number
tests_agree : (negative : Bool) (value : ℕ) → is_within (neg_ℤ (pos max_number)) (pos max_number) (signed_number negative value) ≡ nat_le value max_number
tests_agree true value = grind (arith, nat_tests, ints)
tests_agree false value = grind (arith, nat_tests, ints)

-- digits that are all there
ended : (at : ℕ) (negative : Bool) (magnitude value : ℕ) → IsMagnitude magnitude value → numeral_number at (Digits negative magnitude) ≡ in_range at negative value
ended at negative magnitude value same = ⊎_elim
    (λ (is : magnitude ≡ value). rw (is, tests_agree negative value) refl)
    (λ (great : (max_number < magnitude) × (max_number < value)).
    let much : nat_le magnitude max_number ≡ false = grind (arith, nat_tests) in
    let more : nat_le value max_number ≡ false = grind (arith, nat_tests) in
    rw (tests_agree negative value, much, more) refl)
    same

-- one more digit
grown : (magnitude value d : ℕ) → is_ascii_digit d ≡ true → IsMagnitude magnitude value → IsMagnitude (magnitude_after magnitude (d - 48)) (value * 10 + digit_value d)
grown magnitude value d digit same =
    let one : digit_value d ≡ d - 48 = grind (arith, nat_tests) in
    ⊎_elim
    (λ (small : nat_le magnitude max_number ≡ true).
    let low : magnitude ≤ max_number = grind (arith, nat_tests) in
    rw (small, one) (⊎_elim (λ (is : magnitude ≡ value). inl (omega arith)) (λ (great : (max_number < magnitude) × (max_number < value)). absurd (omega arith)) same))
    (λ (much : nat_le magnitude max_number ≡ false).
    let high : max_number < magnitude = grind (arith, nat_tests) in
    rw (much, one) (⊎_elim (λ (is : magnitude ≡ value). inr (high, omega arith)) (λ (great : (max_number < magnitude) × (max_number < value)). inr (high, omega arith)) same))
    (cases_Bool (nat_le magnitude max_number))

-- digits and what follows them
digits_say : (at : ℕ) (negative : Bool) (magnitude value : ℕ) (ds : List ℕ) → IsMagnitude magnitude value →
    numeral_number at (numeral_behind (Digits negative magnitude) ds) ≡ (if all_ascii_digits ds then in_range at negative (digits_value_after 10 value ds) else Err (NotNumber at))
digits_say at negative magnitude value [] same = ended at negative magnitude value same
digits_say at negative magnitude value (d ∷ ds) same = ⊎_elim
    (λ (digit : is_ascii_digit d ≡ true). rw digit (digits_say at negative (magnitude_after magnitude (d - 48)) (value * 10 + digit_value d) ds (grown magnitude value d digit same)))
    (λ (other : is_ascii_digit d ≡ false). rw other (ap (numeral_number at) (other_stays ds)))
    (cases_Bool (is_ascii_digit d))

-- behind a first digit there is one digit at least
one_or_more : (n : ℕ) → nat_lt 0 (suc n) ≡ true
one_or_more n = grind (arith, nat_tests)

-- what stands behind a sign
unsigned_says : (at : ℕ) (negative : Bool) (ds : List ℕ) →
    numeral_number at (numeral_behind (Sign negative) ds) ≡ (if nat_lt 0 (length ds) && all_ascii_digits ds then in_range at negative (digits_value 10 ds) else Err (NotNumber at))
unsigned_says at negative [] = refl
unsigned_says at negative (d ∷ ds) = ⊎_elim
    (λ (digit : is_ascii_digit d ≡ true). rw (digit, one_or_more (length ds)) (digits_say at negative (magnitude_after 0 (d - 48)) (0 * 10 + digit_value d) ds (grown 0 0 d digit (inl refl))))
    (λ (other : is_ascii_digit d ≡ false). rw (other, one_or_more (length ds)) (ap (numeral_number at) (other_stays ds)))
    (cases_Bool (is_ascii_digit d))

-- the number of a token, and its place
abbrev placed : ℕ → Result ℤ NumberFault → Result Number NumberFault
placed at number = do
  value ← number
  Ok (record { value = value; at = at })

-- what the tests of a token at a place leave of a value
abbrev tested : {A : Type 0} → ℕ → Bool → Bool → A → Result A NumberFault
tested at number within x = if number then (if within then Ok x else Err (OutOfRange at)) else Err (NotNumber at)

-- the tests, and then the place, or the other way round
placed_so : (at : ℕ) (number within : Bool) (z : ℤ) → placed at (tested at number within z) ≡ tested at number within (record { value = z; at = at })
placed_so at false within z = refl
placed_so at true false z = refl
placed_so at true true z = refl

-- the number that digits are with this sign
abbrev digits_number : ℕ → Bool → List ℕ → Result ℤ NumberFault
digits_number at negative ds =
    let z = signed_number negative (digits_value 10 ds) in
    tested at (nat_lt 0 (length ds) && all_ascii_digits ds) (is_within (neg_ℤ (pos max_number)) (pos max_number) z) z

-- digits behind a sign or none, at once
token_says : (at : ℕ) (negative : Bool) (ds : List ℕ) → numeral_number at (numeral_behind (Sign negative) ds) ≡ placed at (digits_number at negative ds)
token_says at negative ds = unsigned_says at negative ds ∙ sym (placed_so at _ _ (signed_number negative (digits_value 10 ds)))

-- the number that a token is
pub numeral_says : (at : ℕ) (bs : List ℕ) → numeral_number at (numeral_of bs) ≡ design_number (record { place = at; bytes = bs })
numeral_says at [] = refl
numeral_says at (b ∷ bs) = ⊎_elim
    (λ (minus : (b == 45) ≡ true). let is : b ≡ 45 = grind (arith, nat_tests) in rw is (token_says at true bs))
    (λ (no_minus : (b == 45) ≡ false). ⊎_elim
    (λ (plus : (b == 43) ≡ true). let is : b ≡ 43 = grind (arith, nat_tests) in rw is (token_says at false bs))
    (λ (no_plus : (b == 43) ≡ false). rw (no_minus, no_plus) (token_says at false (b ∷ bs)))
    (cases_Bool (b == 43)))
    (cases_Bool (b == 45))
