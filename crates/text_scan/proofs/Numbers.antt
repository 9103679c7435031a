-- What follows of the number that a token or a front of the text is.
use Rattle.std.proofs.Common.{◌≡◌, ℕ, ◌<◌, true, false, List, [], ◌∷◌, length, refl, sym, ap, ◌∙◌, ⊎_elim, arith, ℤ, ◌≤ℤ◌, Ok, Err, if◌then◌else◌, SFits, w64}
use Rattle.std.specs.Int.Signed.{le_z}
use Rattle.std.proofs.lemmas.Bool.{cases_Bool, and_parts}
use Rattle.std.proofs.lemmas.Int.{ints}
use Rattle.text_scan.specs.declared.number_fault.NumberFault.TheVariants.{OutOfRange}
use Rattle.text_scan.specs.Tokens.{Token}
use Rattle.text_scan.specs.Numbers.{is_number, value_of, number_front, is_within, token_number, front_number}

-- a number that the bytes begin with is in range or not
pub front_read : (lo hi : ℤ) (len place : ℕ) (rest front : List ℕ) → 0 < length rest → front ≡ number_front rest → is_number front ≡ true →
    front_number lo hi len place rest ≡ (if is_within lo hi (value_of front) then Ok (value_of front) else Err (OutOfRange place))
front_read lo hi len place [] front more is number = absurd (omega arith)
front_read lo hi len place (b ∷ bs) front more is number = rw (← is) (rw number refl)

le_z_holds : (a b : ℤ) → le_z a b ≡ true → a ≤ℤ b
le_z_holds a b h = grind (arith, ints)

-- a number that was read is in range
pub read_is_within : (lo hi v : ℤ) (t : Token) → token_number lo hi t ≡ Ok v → (lo ≤ℤ v) × (v ≤ℤ hi)
read_is_within lo hi v t read = ⊎_elim
    (λ (number : is_number t.bytes ≡ true). ⊎_elim
    (λ (within : is_within lo hi (value_of t.bytes) ≡ true).
    let same : value_of t.bytes ≡ v = cc (rw (number, within) at read) in
    let parts = and_parts (le_z lo (value_of t.bytes)) (le_z (value_of t.bytes) hi) within in
    (le_z_holds lo v (ap (le_z lo) (sym same) ∙ parts.0), le_z_holds v hi (ap (λ x. le_z x hi) (sym same) ∙ parts.1)))
    (λ (beyond : is_within lo hi (value_of t.bytes) ≡ false). absurd (cc (rw (number, beyond) at read)))
    (cases_Bool (is_within lo hi (value_of t.bytes))))
    (λ (other : is_number t.bytes ≡ false). absurd (cc (rw other at read)))
    (cases_Bool (is_number t.bytes))

-- between numbers of 64 bits there are only such
pub fits_between : (lo hi v : ℤ) → SFits w64 lo → SFits w64 hi → lo ≤ℤ v → v ≤ℤ hi → SFits w64 v
fits_between lo hi v low high above below = omega (arith, ints)
