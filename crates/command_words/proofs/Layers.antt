-- Words that are the number of a layer.
use Rattle.std.proofs.Common.{◌≡◌, ◌&&◌, ◌-◌, ◌^◌, ℕ, Bool, true, false, refl, ap, arith, List, nat_le}
use Rattle.std.specs.Str.Parse.{digits_value}
use Rattle.std.proofs.lemmas.Bool.{and_parts}
use Rattle.std.proofs.lemmas.Bool.Decides.{nat_tests}
use Rattle.command_words.specs.CommandLine.{is_seed_name, is_value_word}
use Rattle.command_words.specs.MapLine.{is_layer}

and_false : (b c : Bool) → c ≡ false → (b && c) ≡ false
and_false true c e = e
and_false false c e = refl

small : (n : ℕ) → nat_le n (2 ^ 64 - 1) ≡ false → nat_le n 16 ≡ false
small n large = grind (arith, nat_tests)

-- what is no seed is no layer's number
pub no_layer : (t : List ℕ) → is_seed_name t ≡ false → is_layer t ≡ false
no_layer t none = step (is_value_word t) (nat_le 1 (digits_value 10 t)) (nat_le (digits_value 10 t) 16) (nat_le (digits_value 10 t) (2 ^ 64 - 1)) none (small (digits_value 10 t))
  where
    step : (a b c d : Bool) → (a && d) ≡ false → (d ≡ false → c ≡ false) → (a && (b && c)) ≡ false
    step false b c d e then = refl
    step true b c d e then = and_false b c (then e)

-- a seed is a layer's number where it lies in the range
pub layer_in_range : (t : List ℕ) → is_seed_name t ≡ true → is_layer t ≡ (nat_le 1 (digits_value 10 t) && nat_le (digits_value 10 t) 16)
layer_in_range t is = ap (λ b. b && (nat_le 1 (digits_value 10 t) && nat_le (digits_value 10 t) 16)) (and_parts (is_value_word t) (nat_le (digits_value 10 t) (2 ^ 64 - 1)) is).0
