-- Tile edges by their numbers.
use Rattle.std.proofs.Common.{ℕ, ◌≡◌, ◌+◌, List, [], ◌∷◌, take, refl, ap, zero, suc}
use Rattle.std.specs.List.{enumerate_from, range_with_len, zip}

-- numbers beside the elements of a list end where either does
pub zip_numbers : {A : Type 0} (first count : ℕ) (xs : List A) → zip (range_with_len first count) xs ≡ enumerate_from first (take count xs)
zip_numbers first zero xs = refl
zip_numbers first (suc count) [] = refl
zip_numbers first (suc count) (x ∷ xs) = ap (λ ps. (first, x) ∷ ps) (zip_numbers (first + 1) count xs)
