-- The two tests of digits are one.
use Rattle.std.proofs.Common.{◌≡◌, ℕ, ◌&&◌, List, [], ◌∷◌, refl, ap}
use Rattle.std.specs.Char.{is_ascii_digit}
use Rattle.std.specs.List.{list_all}
use Rattle.std.specs.Str.{all_ascii_digits}

pub digits_listed : (ds : List ℕ) → all_ascii_digits ds ≡ list_all is_ascii_digit ds
digits_listed [] = refl
digits_listed (d ∷ ds) = ap (λ rest. is_ascii_digit d && rest) (digits_listed ds)
