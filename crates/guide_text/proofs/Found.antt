-- A binary search in the rising list of tiles finds exactly what is in it.
use Rattle.std.proofs.Common.{◌≡◌, ℕ, ◌<◌, ◌≤◌, List, length, get_or, Contains, sym, ap, subst, ◌∙◌, Ok, Err, arith, ⊎_elim}
use Rattle.std.specs.Prelude.{Option, Some, None, Result, MatchOption, MatchResult}
use Rattle.std.specs.Result.{result_ok}
use Rattle.std.specs.List.Sorted.{IsStrictlyIncreasing, IsBinarySearchResult}
use Rattle.std.specs.Ordering.{nat_cmp}
use Rattle.std.proofs.lemmas.Bool.{cases_lt}
use Rattle.std.proofs.lemmas.List.{get_or_default}
use Rattle.std.proofs.lemmas.List.Sorted.{searched}
use Rattle.grid_base.specs.declared.place.Place.{Place}
use Rattle.grid_base.specs.declared.size.Size.{Size}
use Rattle.grid_base.specs.Numbers.{vertex_number, place_at}
use Rattle.guide_text.specs.RouteTiles.{HasTile}
use Rattle.std.proofs.lemmas.Map.Keys.{sorted_from_strictly_increasing, below_from_sorted}

-- a later number of a rising list is greater
pub rises : (xs : List ℕ) (i j : ℕ) → IsStrictlyIncreasing xs → i < j → j < length xs → get_or xs i 0 < get_or xs j 0
rises xs i j up before within = below_from_sorted xs i j 0 (sorted_from_strictly_increasing xs up) before within

-- no later number is less
pub rising_far : (xs : List ℕ) → IsStrictlyIncreasing xs → (i j : ℕ) → i ≤ j → j < length xs → get_or xs i 0 ≤ get_or xs j 0
rising_far xs up i j before within = ⊎_elim
    (λ (less : i < j). omega (arith, below_from_sorted xs i j 0 (sorted_from_strictly_increasing xs up) less within))
    (λ (other : j ≤ i). let same : i ≡ j = omega arith in rw same (omega arith))
    (cases_lt i j)

found_or_not : (xs : List ℕ) (x : ℕ) (r : Result ℕ ℕ)
    → MatchResult r (λ i. (i < length xs) × (get_or xs i 0 ≡ x)) (λ i. (i ≤ length xs) × ((k : ℕ) → k < i → get_or xs k 0 < x) × ((k : ℕ) → i ≤ k → k < length xs → x < get_or xs k 0))
    → MatchOption (result_ok r) (¬ Contains xs x) (λ at. (at < length xs) × (get_or xs at 0 ≡ x))
found_or_not xs x (Ok i) found = found
found_or_not xs x (Err i) parted = λ held.
    let k = held.0 in
    let at : get_or xs k 0 ≡ x = get_or_default xs k 0 x held.1 ∙ held.2 in
    ⊎_elim (λ (before : k < i). absurd (omega (arith, at, parted.1 k before))) (λ (behind : i ≤ k). absurd (omega (arith, at, parted.2 k behind held.1))) (cases_lt k i)

-- where a number is found, if it is there
pub found_by_search : (xs : List ℕ) (x : ℕ) (r : Result ℕ ℕ) → IsStrictlyIncreasing xs → IsBinarySearchResult (λ y. nat_cmp y x) xs r
    → MatchOption (result_ok r) (¬ Contains xs x) (λ at. (at < length xs) × (get_or xs at 0 ≡ x))
found_by_search xs x r up position = found_or_not xs x r (searched xs x r position (rising_far xs up))

-- so is a tile, by its number
pub tile_found : (s : Size) (xs : List ℕ) (from : Place) (x : ℕ) (o : Option ℕ) → x ≡ vertex_number s from.col from.row from.layer → place_at s x ≡ from
    → MatchOption o (¬ Contains xs x) (λ at. (at < length xs) × (get_or xs at 0 ≡ x))
    → MatchOption o (¬ HasTile s xs from.layer from.row from.col) (λ at. (at < length xs) × (from ≡ place_at s (get_or xs at 0)))
tile_found s xs from x None number place none = λ has. none (subst (Contains xs) (sym number) has.listed)
tile_found s xs from x (Some at) number place found = (found.0, sym place ∙ ap (place_at s) (sym found.1))
