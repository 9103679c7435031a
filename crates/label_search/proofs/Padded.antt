-- Lists that grew by blank items.
use Rattle.std.proofs.Common.{◌≡◌, ◌≢◌, ℕ, ◌+◌, ◌-◌, ◌*◌, ◌<◌, ◌≤◌, List, length, get_or, max, replicate, sum_by, refl, sym, ◌∙◌, ap}
use Rattle.std.proofs.Common.{⊎_elim, arith}
use Rattle.std.proofs.lemmas.Bool.{cases_lt}
use Rattle.std.proofs.lemmas.List.{length-append, length-replicate, get_or-replicate, get_or_append_left, get_or-append_right}
use Rattle.std.proofs.lemmas.List.{get_or_past}
use Rattle.std.proofs.lemmas.List.Folds.{sum_by-replicate}
use Rattle.std.proofs.lemmas.List.Sums.{sum_by-append}
use Rattle.label_search.specs.Padding.{padded}
use Rattle.label_search.specs.Stamped.{far}

-- a list has an index now, and reads as before
pub record IsPadded (old new : List ℕ) (i blank : ℕ) : Type 0 where
  pub long : length new ≡ max (length old) (i + 1)
  pub same : (k : ℕ) → get_or new k blank ≡ get_or old k blank

blank_there : (n k blank : ℕ) → get_or (replicate n blank) k blank ≡ blank
blank_there n k blank = ⊎_elim
    (λ inside. get_or-replicate n k blank blank inside)
    (λ past. get_or_past (replicate n blank) k blank (omega (arith, past, length-replicate n blank)))
    (cases_lt k n)

pub length-padded : {X : Type 0} (xs : List X) (i : ℕ) (blank : X) → length (padded xs i blank) ≡ max (length xs) (i + 1)
length-padded xs i blank =
    let more = i + 1 - length xs in
    omega (arith, length-append xs (replicate more blank), length-replicate more blank)

-- a list that gets one item at most reads elsewhere as before
pub get_or-padded_other : {X : Type 0} (xs : List X) (i j : ℕ) (blank d : X) → i ≤ length xs → j ≢ i
    → get_or (padded xs i blank) j d ≡ get_or xs j d
get_or-padded_other xs i j blank d near other = ⊎_elim
    (λ inside. get_or_append_left xs (replicate (i + 1 - length xs) blank) d j inside)
    (λ past. get_or_past (padded xs i blank) j d (omega (arith, past, near, other, length-padded xs i blank))
    ∙ sym (get_or_past xs j d past))
    (cases_lt j (length xs))

get_or-padded : (xs : List ℕ) (i blank k : ℕ) → get_or (padded xs i blank) k blank ≡ get_or xs k blank
get_or-padded xs i blank k =
    let more = replicate (i + 1 - length xs) blank in
    ⊎_elim
    (λ inside. get_or_append_left xs more blank k inside)
    (λ past. get_or-append_right xs more (length xs) k blank refl past
    ∙ blank_there (i + 1 - length xs) (k - length xs) blank ∙ sym (get_or_past xs k blank past))
    (cases_lt k (length xs))

pub is_padded : (old new : List ℕ) (i blank : ℕ) → new ≡ padded old i blank → IsPadded old new i blank
is_padded old new i blank is = record {
  long = ap (λ (xs : List ℕ). length xs) is ∙ length-padded old i blank;
  same = λ k. ap (λ (xs : List ℕ). get_or xs k blank) is ∙ get_or-padded old i blank k;
}

-- numbers that are `far` count as much in the list as behind it
pub padded_total : (old new : List ℕ) (i count : ℕ) → new ≡ padded old i far → i < count → length old ≤ count →
    sum_by (λ x. x) new + far * (count - length new) ≡ sum_by (λ x. x) old + far * (count - length old)
padded_total old new i count is inside within =
    let more = i + 1 - length old in
    omega (
      arith,
      inside,
      within,
      (is_padded old new i far is).long,
      ap (λ (xs : List ℕ). sum_by (λ x. x) xs) is,
      sum_by-append (λ x. x) old (replicate more far),
      sum_by-replicate (λ x. x) more far,
    )
