-- The splits of a mask, one after the other.
use Rattle.std.proofs.Common.{◌≡◌, ℕ, ◌+◌, ◌-◌, ◌<◌, ◌≤◌, List, [], length, get_or, sym, ◌∙◌, subst, ⊎_elim, arith}
use Rattle.std.proofs.lemmas.Bool.{cases_eq, cases_lt}
use Rattle.std.proofs.lemmas.Option.{slice_get-get_or, get_or_from_slice_get}
use Rattle.steiner_tables.specs.Masks.{AreParts}
use Rattle.steiner_tables.proofs.Masks.{parts_sum, parts_turned}
use Rattle.overflow_bounds.specs.NodeRows.{LowersTo, IsWithinSplits, IsWithinSums, numbers_of_mask}

-- what stands at a place, where it was read with itself in the place of what isn't there
pub row_read : (rows : List (List ℕ)) (place : ℕ) (item row : List ℕ) → place < length rows → item ≡ get_or rows place item
    → row ≡ item → row ≡ get_or rows place []
row_read rows place item row low is same =
    same ∙ is ∙ sym (get_or_from_slice_get rows place (get_or rows place item) [] (slice_get-get_or rows place item low))

-- a row is at most the sums of each split whose lesser part is below this mask
abbrev pub IsWithinBelow : List (List ℕ) → ℕ → ℕ → List ℕ → Type 0
IsWithinBelow rows mask high row = (one other : ℕ) → one < high → one ≤ other → AreParts one other mask
    → IsWithinSums (numbers_of_mask rows one) (numbers_of_mask rows other) row

-- a lower row still is
pub sums_lowered : (one other old new : List ℕ) → length new ≡ length old → LowersTo old new → IsWithinSums one other old
    → IsWithinSums one other new
sums_lowered one other old new long lowered within n inside = omega (arith, lowered n, within n (omega (arith, inside, long)))

-- one split more
pub split_more : (rows : List (List ℕ)) (mask one : ℕ) (old new : List ℕ) → length new ≡ length old → LowersTo old new
    → (one ≤ mask - one → AreParts one (mask - one) mask → IsWithinSums (numbers_of_mask rows one) (numbers_of_mask rows (mask - one)) new)
    → IsWithinBelow rows mask one old → IsWithinBelow rows mask (one + 1) new
split_more rows mask one old new long lowered here before first second low order parts = ⊎_elim
    (λ last.
    let rest : second ≡ mask - one = omega (arith, last, parts_sum first second mask parts) in
    let these = here (omega (arith, last, rest, order))
    (subst (λ m. AreParts m (mask - one) mask) last (subst (λ m. AreParts first m mask) rest parts)) in
    subst (λ m. IsWithinSums (numbers_of_mask rows first) (numbers_of_mask rows m) new) (sym rest)
    (subst (λ m. IsWithinSums (numbers_of_mask rows m) (numbers_of_mask rows (mask - one)) new) (sym last) these))
    (λ earlier. sums_lowered (numbers_of_mask rows first) (numbers_of_mask rows second) old new long lowered
    (before first second (omega (arith, low, earlier)) order parts))
    (cases_eq first one)

-- where all lesser parts were looked at, so were all splits
pub all_splits : (rows : List (List ℕ)) (mask high : ℕ) (row : List ℕ) → mask ≤ high → IsWithinBelow rows mask high row
    → IsWithinSplits rows mask row
all_splits rows mask high row most below one other parts = ⊎_elim
    (λ greater n inside.
    omega (
      arith,
      below other one (omega (arith, sum, most, parts.some)) (omega (arith, greater))
          (parts_turned one other mask parts) n inside,
    ))
    (λ lesser. below one other (omega (arith, sum, most, parts.others)) lesser parts)
    (cases_lt other one)
  where
    sum : one + other ≡ mask
    sum = parts_sum one other mask parts
