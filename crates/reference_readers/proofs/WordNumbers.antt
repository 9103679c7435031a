-- Words that are numbers.
use Rattle.std.proofs.Common.{◌≡◌, ℕ, zero, suc, ◌<◌, ◌==◌, true, false, cond, List, [], ◌∷◌, length, get_or, Some, None}
use Rattle.std.proofs.Common.{Result, Ok, Err, ℤ, pos, neg_ℤ, refl, ap, ⊎_elim, arith, ltb-true, lt-ltb, nat_lt, eqb-true}
use Rattle.std.specs.Str.{IsAscii, all_ascii_digits}
use Rattle.std.specs.Str.Parse.{IsNumeral, without_leading_sign, signed_digits_value, digits_value}
use Rattle.std.proofs.lemmas.Bool.{cases_Bool, and_parts}
use Rattle.std.proofs.lemmas.Fmt.{IsAscii-from_digits}
use Rattle.std.proofs.lemmas.Str.Ascii.{IsAscii-nil}
use Rattle.text_scan.specs.Faults.{fault_place}
use Rattle.text_scan.specs.declared.number_fault.NumberFault.{NumberFault}
use Rattle.text_scan.specs.declared.number_fault.NumberFault.TheVariants.{NotNumber, OutOfRange}
use Rattle.text_scan.specs.Numbers.{is_sign, unsigned, is_number, is_within, value_of, token_number}
use Rattle.text_scan.proofs.Digits.{numerals}
use Rattle.reference_readers.specs.ReferenceNumbers.{word_as_number}

-- a word that is a number in range is read as that number
pub word_is_number : (lo hi z : ℤ) (place : ℕ) (word : List ℕ) → word_as_number lo hi word ≡ Some z
    → (token_number lo hi (record { place = place; bytes = word }) ≡ Ok z) × (is_number word ≡ true)
word_is_number lo hi z place word is = ⊎_elim
    (λ (number : is_number word ≡ true). ⊎_elim
    (λ (within : is_within lo hi (value_of word) ≡ true).
    (let same = rw (number, within) at is in rw (number, within) cc, number))
    (λ (beyond : is_within lo hi (value_of word) ≡ false). let none = rw (number, beyond) at is in absurd cc)
    (cases_Bool (is_within lo hi (value_of word))))
    (λ (other : is_number word ≡ false). let none = rw other at is in absurd cc)
    (cases_Bool (is_number word))

-- and one that is none is refused where it stands
pub record IsRefusedAt (place : ℕ) (read : Result ℤ NumberFault) : Type 0 where
  pub fault : NumberFault
  pub refused : read ≡ Err fault
  pub stands : fault_place fault ≡ place

pub word_is_no_number : (lo hi : ℤ) (place : ℕ) (word : List ℕ) → word_as_number lo hi word ≡ None
    → IsRefusedAt place (token_number lo hi (record { place = place; bytes = word }))
word_is_no_number lo hi place word is = ⊎_elim
    (λ (number : is_number word ≡ true). ⊎_elim
    (λ (within : is_within lo hi (value_of word) ≡ true). let some = rw (number, within) at is in absurd cc)
    (λ (beyond : is_within lo hi (value_of word) ≡ false). record
    { fault = OutOfRange place; refused = rw (number, beyond) refl; stands = refl })
    (cases_Bool (is_within lo hi (value_of word))))
    (λ (other : is_number word ≡ false). record { fault = NotNumber place; refused = rw other refl; stands = refl })
    (cases_Bool (is_number word))

-- ---- std's words for a number and ours

same_unsigned : (word : List ℕ) → without_leading_sign word ≡ unsigned word
same_unsigned word = ⊎_elim
    (λ (minus : (get_or word 0 0 == 45) ≡ true). ⊎_elim
    (λ (plus : (get_or word 0 0 == 43) ≡ true). rw (minus, plus) refl)
    (λ (other : (get_or word 0 0 == 43) ≡ false). rw (minus, other) refl)
    (cases_Bool (get_or word 0 0 == 43)))
    (λ (no_minus : (get_or word 0 0 == 45) ≡ false). ⊎_elim
    (λ (plus : (get_or word 0 0 == 43) ≡ true). rw (no_minus, plus) refl)
    (λ (other : (get_or word 0 0 == 43) ≡ false). rw (no_minus, other) refl)
    (cases_Bool (get_or word 0 0 == 43)))
    (cases_Bool (get_or word 0 0 == 45))

pub same_number_value : (word : List ℕ) → signed_digits_value 10 word ≡ value_of word
same_number_value word = ap (λ (digits : List ℕ). cond (get_or word 0 0 == 45) (neg_ℤ (pos (digits_value 10 digits)))
    (pos (digits_value 10 digits))) (same_unsigned word)

pub number_from_numeral : (word : List ℕ) → IsNumeral 10 (without_leading_sign word) → is_number word ≡ true
number_from_numeral word numeral =
    let is = rw (same_unsigned word) at numeral in
    rw (lt-ltb 0 (length (unsigned word)) is.0) (numerals.from (unsigned word) is.1)

pub numeral_from_number : (word : List ℕ) → is_number word ≡ true → IsNumeral 10 (without_leading_sign word)
numeral_from_number word is =
    let parts = and_parts (nat_lt 0 (length (unsigned word))) (all_ascii_digits (unsigned word)) is in
    rw (same_unsigned word) (ltb-true 0 (length (unsigned word)) parts.0, numerals.to (unsigned word) parts.1)

ascii_before : (b : ℕ) (bs : List ℕ) → b < 128 → IsAscii bs → IsAscii (b ∷ bs)
ascii_before b bs first rest zero = first
ascii_before b bs first rest (suc i) = rest i

-- a number holds no byte beyond ASCII
pub number_is_ascii : (word : List ℕ) → is_number word ≡ true → IsAscii word
number_is_ascii [] is = IsAscii-nil
number_is_ascii (b ∷ bs) is = ⊎_elim
    (λ (sign : is_sign b ≡ true).
    let digits = (and_parts (nat_lt 0 (length bs)) (all_ascii_digits bs) (rw sign at is)).1 in
    ascii_before b bs (below b sign) (IsAscii-from_digits bs (numerals.to bs digits)))
    (λ (plain : is_sign b ≡ false).
    let digits = (and_parts (nat_lt 0 (length (b ∷ bs))) (all_ascii_digits (b ∷ bs)) (rw plain at is)).1 in
    IsAscii-from_digits (b ∷ bs) (numerals.to (b ∷ bs) digits))
    (cases_Bool (is_sign b))
  where
    below : (b : ℕ) → is_sign b ≡ true → b < 128
    below b sign = ⊎_elim
        (λ (plus : (b == 43) ≡ true). omega (arith, eqb-true b 43 plus))
        (λ (other : (b == 43) ≡ false). omega (arith, eqb-true b 45 (rw other at sign)))
        (cases_Bool (b == 43))
