-- What clap makes of a value of digits alone.
use Rattle.std.proofs.Common.{◌≡◌, ◌≤◌, ◌<◌, ◌^◌, ◌&&◌, ◌∙◌, ◌-◌, ℕ, Bool, true, false, refl, ap, sym, subst, arith, rules, true≢false, List, [], ◌∷◌, length, Option, Some, None, Result, Ok, Err, nat_le}
use Rattle.std.proofs.lemmas.Bool.{and_parts}
use Rattle.std.specs.Bool.{Decides}
use Rattle.std.specs.Char.{is_ascii_digit}
use Rattle.std.specs.List.{list_all}
use Rattle.std.specs.Str.Parse.{IsNumeral, ParsesUnsigned, digits_value, without_leading_plus}
use Rattle.std.proofs.lemmas.Bool.Decides.{nat_tests, same_from_decides}
use Rattle.std.proofs.lemmas.Str.Parse.{IsNumeralModel, not_in_digits, numerals_by_value, parse_digits, parse_gives, without_leading_plus_none}
use Rattle.clap.specs.Words.{Accepts, Text}
use Rattle.clap.specs.Matches.{ReadsOne}
use Rattle.clap.specs.ValueTests.{accepts}
use Rattle.clap.proofs.ValueTestLemmas.{Accepts-accepts, accepts-Accepts}
use Rattle.clap.specs.declared.builder.value_parser.ValueParser.TheVariants as vp
use Rattle.std.specs.Prelude.{MatchOption}
use Rattle.std.specs.Result.{OkIff, result_ok}
use Rattle.command_words.specs.CommandLine.{is_seed_name, is_value_word}
use Rattle.command_words.proofs.Uses.{HasNoHyphen}

own : IsNumeralModel (λ ds. list_all is_ascii_digit ds ≡ true) (digits_value 10)
own = numerals_by_value _ (search rules)

pub digits_are : (t : Text) → is_value_word t ≡ true → list_all is_ascii_digit t ≡ true
digits_are t is = (and_parts (nat_le (length t) 20) (list_all is_ascii_digit t) (and_parts (nat_le 1 (length t)) (nat_le (length t) 20 && list_all is_ascii_digit t) is).1).1

pub not_empty : (t : Text) → is_value_word t ≡ true → 0 < length t
not_empty t is = let h : nat_le 1 (length t) ≡ true = (and_parts (nat_le 1 (length t)) (nat_le (length t) 20 && list_all is_ascii_digit t) is).0 in grind (arith, nat_tests)

pub no_hyphen : (t : Text) → is_value_word t ≡ true → HasNoHyphen t
no_hyphen [] is = absurd (true≢false (sym is))
no_hyphen (x ∷ xs) is =
    let first : is_ascii_digit x ≡ true = (and_parts (is_ascii_digit x) (list_all is_ascii_digit xs) (digits_are (x ∷ xs) is)).0 in
    grind (arith, nat_tests)

abbrev pub in_range : ℕ → ℕ → Text → Bool
in_range least most t = nat_le least (digits_value 10 t) && nat_le (digits_value 10 t) most

no_plus : (t : Text) → is_value_word t ≡ true → without_leading_plus t ≡ t
no_plus t is = without_leading_plus_none t (not_in_digits own t 43 (digits_are t is) (λ h. omega arith) 0 (not_empty t is))

in_range_tells : (least most : ℕ) (t : Text) → Decides (in_range least most t) ((least ≤ digits_value 10 t) × (digits_value 10 t ≤ most))
in_range_tells least most t = (λ e. grind (arith, nat_tests), λ p. grind (arith, nat_tests))

numeral : (t : Text) → is_value_word t ≡ true → IsNumeral 10 t
numeral t is = (not_empty t is, own.to t (digits_are t is))

-- a range takes just the values in it
pub accepts_is : (ignore : Bool) (least most : ℕ) (t : Text) → is_value_word t ≡ true → most < 2 ^ 64 → accepts ignore (vp.Unsigned least most) t ≡ in_range least most t
accepts_is ignore least most t is small = same_from_decides _ _ (to, from) (in_range_tells least most t)
  where
    to : accepts ignore (vp.Unsigned least most) t ≡ true → (least ≤ digits_value 10 t) × (digits_value 10 t ≤ most)
    to e = rw (no_plus t is) at (both (accepts-Accepts ignore (vp.Unsigned least most) t e))
      where
        both : Accepts ignore (vp.Unsigned least most) t → (least ≤ digits_value 10 (without_leading_plus t)) × (digits_value 10 (without_leading_plus t) ≤ most)
        both h = (h.2, h.3)

    from : (least ≤ digits_value 10 t) × (digits_value 10 t ≤ most) → accepts ignore (vp.Unsigned least most) t ≡ true
    from p = Accepts-accepts ignore (vp.Unsigned least most) t (rw (no_plus t is) (numeral t is, omega arith, p.0, p.1))

-- a typed getter reads its number
pub reads_number : (E : Type 0) (G : List ℕ → Result ℕ E → Type 0) (t : Text) (r : Option ℕ) → is_value_word t ≡ true → digits_value 10 t < 2 ^ 64
    → ((u : List ℕ) (x : Result ℕ E) → G u x → ParsesUnsigned 64 10 u x) → ReadsOne G t r → r ≡ Some (digits_value 10 t)
reads_number E G t (Some v) is small only read =
    let same : ◌≡◌ {A = Result ℕ E} (Ok v) (Ok (digits_value 10 t)) = parse_gives own 64 t (Ok v) (only t (Ok v) read) (digits_are t is) (not_empty t is) small in
    cc
reads_number E G t None is small only read =
    let same : ◌≡◌ {A = Result ℕ E} (Err read.0) (Ok (digits_value 10 t)) = parse_gives own 64 t (Err read.0) (only t (Err read.0) read.1) (digits_are t is) (not_empty t is) small in
    cc

-- digits are read where their value is a seed
pub seed_read : {E : Type 0} (t : Text) (r : Result ℕ E) (o : Option ℕ) → is_value_word t ≡ true → ParsesUnsigned 64 10 t r → o ≡ result_ok r
    → MatchOption o (is_seed_name t ≡ false) (λ seed. (is_seed_name t ≡ true) × (digits_value 10 t ≡ seed))
seed_read {E} t (Ok v) o is parsed same =
    let read : OkIff {E = E} (Ok v) ((0 < length t) × (digits_value 10 t < 2 ^ 64)) (digits_value 10 t) = parse_digits own {E = E} 64 t (Ok v) parsed (digits_are t is) in
    let small : digits_value 10 t < 2 ^ 64 = read.0.1 in
    let fits : nat_le (digits_value 10 t) (2 ^ 64 - 1) ≡ true = grind (arith, nat_tests) in
    subst (λ (q : Option ℕ). MatchOption q (is_seed_name t ≡ false) (λ seed. (is_seed_name t ≡ true) × (digits_value 10 t ≡ seed))) (sym same)
    (ap (λ b. b && nat_le (digits_value 10 t) (2 ^ 64 - 1)) is ∙ fits, sym read.1)
seed_read {E} t (Err e) o is parsed same =
    let read : OkIff {E = E} (Err e) ((0 < length t) × (digits_value 10 t < 2 ^ 64)) (digits_value 10 t) = parse_digits own {E = E} 64 t (Err e) parsed (digits_are t is) in
    subst (λ (q : Option ℕ). MatchOption q (is_seed_name t ≡ false) (λ seed. (is_seed_name t ≡ true) × (digits_value 10 t ≡ seed))) (sym same)
    (ap (λ b. b && nat_le (digits_value 10 t) (2 ^ 64 - 1)) is ∙ large (nat_le (digits_value 10 t) (2 ^ 64 - 1)) refl read)
  where
    large : (b : Bool) → nat_le (digits_value 10 t) (2 ^ 64 - 1) ≡ b → ((0 < length t) × (digits_value 10 t < 2 ^ 64) → ⊥) → b ≡ false
    large false e never = refl
    large true e never = absurd (never (not_empty t is, grind (arith, nat_tests)))
