-- What follows of digits that a text goes on with.
use Rattle.std.proofs.Common.{◌≡◌, ℕ, ◌+◌, ◌<◌, ◌≤◌, ◌==◌, true, false, cond, suc, if◌then◌else◌, List, [], ◌∷◌, length, take, drop, refl, sym, ap, ◌∙◌, ⊎_elim, arith, pos, neg_ℤ, Some, ◌&&◌, nat_lt}
use Rattle.std.specs.Prelude.{FitsSigned}
use Rattle.std.specs.Int.{w128}
use Rattle.std.specs.Char.{is_ascii_digit}
use Rattle.std.specs.List.{prefix_len}
use Rattle.std.specs.Str.{all_ascii_digits}
use Rattle.std.specs.Str.Parse.{digits_value}
use Rattle.std.proofs.lemmas.Bool.{cases_Bool}
use Rattle.std.proofs.lemmas.List.Folds.{length-prefix_len}
use Rattle.text_scan.specs.Fronts.{IsFrontOf}
use Rattle.text_scan.specs.Numbers.{is_sign, sign_len, unsigned, is_number, number_front, value_of}

-- digits that stand first, and those behind them
more_run : (d : ℕ) (ds : List ℕ) → is_ascii_digit d ≡ true → take (prefix_len is_ascii_digit (d ∷ ds)) (d ∷ ds) ≡ d ∷ take (prefix_len is_ascii_digit ds) ds
more_run d ds digit =
    let k = prefix_len is_ascii_digit ds in
    let one : 1 + k ≡ suc k = omega arith in
    ap (λ b. take (cond b (1 + k) 0) (d ∷ ds)) digit ∙ ap (λ n. take n (d ∷ ds)) one

-- the longest front of digits is digits
run_is_digits : (ds : List ℕ) → all_ascii_digits (take (prefix_len is_ascii_digit ds) ds) ≡ true
run_is_digits [] = refl
run_is_digits (d ∷ ds) = ⊎_elim
    (λ (digit : is_ascii_digit d ≡ true). ap all_ascii_digits (more_run d ds digit) ∙ ap (λ b. b && all_ascii_digits (take (prefix_len is_ascii_digit ds) ds)) digit ∙ run_is_digits ds)
    (λ (other : is_ascii_digit d ≡ false). ap (λ b. all_ascii_digits (take (cond b (1 + prefix_len is_ascii_digit ds) 0) (d ∷ ds))) other)
    (cases_Bool (is_ascii_digit d))

-- a digit is no sign
digit_is_no_sign : (d : ℕ) → is_ascii_digit d ≡ true → is_sign d ≡ false
digit_is_no_sign d digit = grind arith

digit_is_no_minus : (d : ℕ) → is_ascii_digit d ≡ true → (d == 45) ≡ false
digit_is_no_minus d digit = grind arith

module _ (d : ℕ) (ds : List ℕ) (digit : is_ascii_digit d ≡ true) where
  no_sign : sign_len (d ∷ ds) ≡ 0
  no_sign = ap (λ b. if b then 1 else 0) (digit_is_no_sign d digit)

  unsigned_is_all : unsigned (d ∷ ds) ≡ d ∷ ds
  unsigned_is_all = ap (λ k. drop k (d ∷ ds)) no_sign

  front_is_run : number_front (d ∷ ds) ≡ take (prefix_len is_ascii_digit (d ∷ ds)) (d ∷ ds)
  front_is_run =
      let n = prefix_len is_ascii_digit (d ∷ ds) in
      let none : 0 + n ≡ n = omega arith in
      ap (λ k. take (k + prefix_len is_ascii_digit (drop k (d ∷ ds))) (d ∷ ds)) no_sign ∙ ap (λ k. take k (d ∷ ds)) none

  is_a_number : all_ascii_digits (d ∷ ds) ≡ true → is_number (d ∷ ds) ≡ true
  is_a_number all =
      let some : nat_lt 0 (length (d ∷ ds)) ≡ true = grind arith in
      ap (λ l. nat_lt 0 (length l) && all_ascii_digits l) unsigned_is_all ∙ ap (λ b. b && all_ascii_digits (d ∷ ds)) some ∙ all

  has_value : value_of (d ∷ ds) ≡ pos (digits_value 10 (d ∷ ds))
  has_value =
      ap (λ b. if b then neg_ℤ (pos (digits_value 10 (unsigned (d ∷ ds)))) else pos (digits_value 10 (unsigned (d ∷ ds)))) (digit_is_no_minus d digit)
      ∙ ap (λ l. pos (digits_value 10 l)) unsigned_is_all

-- where digits stand first, the number that the bytes begin with has no sign, and is all of them
digits_front : (ds : List ℕ) → 0 < prefix_len is_ascii_digit ds →
    let front = take (prefix_len is_ascii_digit ds) ds in
    (number_front ds ≡ front) × (is_number front ≡ true) × (value_of front ≡ pos (digits_value 10 front))
digits_front [] some = absurd (omega arith)
digits_front (d ∷ ds) some = ⊎_elim
    (λ (digit : is_ascii_digit d ≡ true).
    let run = more_run d ds digit in
    let rest = take (prefix_len is_ascii_digit ds) ds in (
      front_is_run d ds digit,
      ap is_number run ∙ is_a_number d rest digit (ap all_ascii_digits (sym run) ∙ run_is_digits (d ∷ ds)),
      ap value_of run ∙ has_value d rest digit ∙ ap (λ l. pos (digits_value 10 l)) (sym run),
    ))
    (λ (other : is_ascii_digit d ≡ false). absurd (omega (arith, ap (λ b. cond b (1 + prefix_len is_ascii_digit ds) 0) other)))
    (cases_Bool (is_ascii_digit d))

-- digits from a place on are the number that the text goes on with
pub digits_are_front : (text : List ℕ) (at end value : ℕ) → FitsSigned w128 (pos value) → end ≡ at + prefix_len is_ascii_digit (drop at text) → end ≤ length text → at < end →
    value ≡ digits_value 10 (take (prefix_len is_ascii_digit (drop at text)) (drop at text)) → IsFrontOf text at (record { end = end; value = Some (pos value) })
digits_are_front text at end value fits to within some is =
    let rest = drop at text in
    let front = digits_front rest (omega arith) in
    let same : value_of (number_front rest) ≡ pos value = ap value_of front.0 ∙ front.2 ∙ ap pos (sym is) in
    record {
      number = ap is_number front.0 ∙ front.1;
      end = to ∙ ap (λ n. at + n) (sym (ap length front.0 ∙ length-prefix_len is_ascii_digit rest));
      within = within;
      value = (rw same fits, sym same);
    }
