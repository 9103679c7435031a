-- A number that was read is in the range that was asked for.
use Rattle.std.proofs.Common.{◌≡◌, ℕ, ◌≤◌, List, [], ◌∷◌, ℤ, pos, negsuc, ◌≤ℤ◌, Some, Ok, refl, ap, arith, le-leb}
use Rattle.std.proofs.lemmas.Bool.Decides.{nat_tests}
use Rattle.std.proofs.lemmas.Option.{none-some, cond_some}
use Rattle.text_scan.specs.declared.number_fault.NumberFault.TheVariants.{End}
use Rattle.text_scan.specs.declared.number.Number.{Number}
use Rattle.text_scan.specs.Numbers.{number_front, token_number, front_number}
use Rattle.text_scan.specs.Within.{within}
use Rattle.text_scan.specs.Reading.{Reading, first_token, first_number}
use Rattle.text_scan.specs.Parts.{◌>>=◌}
use Rattle.text_scan.proofs.Parts.{parts_of_ok}
use Rattle.text_scan.proofs.Numbers.{read_is_within}

-- a number within its limits is the one that is found
pub within_is : (lo hi n : ℕ) → lo ≤ n → n ≤ hi → within lo hi (pos n) ≡ Some n
within_is lo hi n low high = rw (le-leb lo n low, le-leb n hi high) refl

-- and the one that is found is within them
pub within_bounds : (lo hi : ℕ) (z : ℤ) (n : ℕ) → within lo hi z ≡ Some n → (z ≡ pos n) × (lo ≤ n) × (n ≤ hi)
within_bounds lo hi (pos m) n h = let p = cond_some _ m n h in (ap pos p.1, grind (arith, nat_tests), grind (arith, nat_tests))
within_bounds lo hi (negsuc m) n h = absurd (none-some n h)

-- the number that the bytes begin with
pub front_is_within : (lo hi z : ℤ) (len place : ℕ) (bytes : List ℕ) → front_number lo hi len place bytes ≡ Ok z → (lo ≤ℤ z) × (z ≤ℤ hi)
front_is_within lo hi z len place [] read = absurd (cc)
front_is_within lo hi z len place (b ∷ bs) read = read_is_within lo hi z (record { place = place; bytes = number_front (b ∷ bs) }) read

-- the number that the first token is
pub first_is_within : (lo hi : ℤ) (n : Number) (r : Reading) → first_number lo hi r ≡ Ok n → (lo ≤ℤ n.value) × (n.value ≤ℤ hi)
first_is_within lo hi n r read =
    let token = parts_of_ok (first_token End r) (λ token. token_number lo hi token >>= λ value. Ok (record { value = value; at = token.place })) n read in
    let value = parts_of_ok (token_number lo hi token.0) (λ value. Ok (record { value = value; at = token.0.place })) n token.2 in
    let same : value.0 ≡ n.value = cc (value.2) in
    rw same at (read_is_within lo hi value.0 token.0 value.1)
