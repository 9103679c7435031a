-- Tiles that follow one another in a row, and in the rising list of tiles.
use Rattle.std.proofs.Common.{◌≡◌, ◌≢◌, ℕ, ◌+◌, ◌*◌, ◌/◌, ◌%◌, ◌<◌, ◌≤◌, List, length, get_or, Contains, refl, sym, ap, subst, ◌∙◌, arith, ⊎_elim}
use Rattle.std.specs.List.Sorted.{IsStrictlyIncreasing}
use Rattle.std.proofs.lemmas.Bool.{cases_lt}
use Rattle.std.proofs.lemmas.List.{get_or_default}
use Rattle.std.proofs.lemmas.Nat.{mod-mul-add, div-add-mod'}
use Rattle.grid_base.specs.declared.size.Size.{Size}
use Rattle.grid_base.specs.Numbers.{cols, col_of, row_of, layer_of, place_at, vertex_number, IsVertex}
use Rattle.grid_base.proofs.Places.{place_at-inside, place_at-number, vertex_number-next_col, vertex_number-place}
use Rattle.guide_text.specs.RouteTiles.{HasTile, HasTileBefore, HasTileBehind}
use Rattle.guide_text.proofs.Found.{rising_far, rises}
use Rattle.guide_text.proofs.Runs.{tile_at_place}

-- the number behind one of a rising list is in the list only as the next of it
pub next_listed : (xs : List ℕ) (at : ℕ) → IsStrictlyIncreasing xs → at < length xs → Contains xs (get_or xs at 0 + 1)
    → (at + 1 < length xs) × (get_or xs (at + 1) 0 ≡ get_or xs at 0 + 1)
next_listed xs at up within held =
    let k = held.0 in
    let is : get_or xs k 0 ≡ get_or xs at 0 + 1 = get_or_default xs k 0 (get_or xs at 0 + 1) held.1 ∙ held.2 in
    ⊎_elim
    (λ (behind : at < k). ⊎_elim
    (λ (far : at + 1 < k). absurd (omega (arith, is, rises xs at (at + 1) up (omega arith) (omega (arith, held.1)), rises xs (at + 1) k up far held.1)))
    (λ (near : k ≤ at + 1). let same : k ≡ at + 1 = omega arith in (omega (arith, held.1), ap (λ j. get_or xs j 0) (sym same) ∙ is))
    (cases_lt (at + 1) k))
    (λ (before : k ≤ at). absurd (omega (arith, is, rising_far xs up k at before within)))
    (cases_lt at k)

-- whether the next number is still in the row
same_row : (s : Size) (v : ℕ) → col_of s v + 1 < cols s → (v + 1) % cols s ≡ col_of s v + 1
same_row s v inside =
    let parts : v + 1 ≡ v / cols s * cols s + (v % cols s + 1) = omega (arith, div-add-mod' v (cols s)) in
    rw parts (mod-mul-add (v / cols s) (cols s) (v % cols s + 1) inside)

row_end : (s : Size) (v : ℕ) → cols s ≤ col_of s v + 1 → IsVertex s v → (v + 1) % cols s ≡ 0
row_end s v last vertex =
    let inside = place_at-inside s v vertex in
    let parts : v + 1 ≡ (v / cols s + 1) * cols s + 0 = omega (arith, div-add-mod' v (cols s), inside.0) in
    rw parts (mod-mul-add (v / cols s + 1) (cols s) 0 s.within.has_col)

-- the next number is in the list, and in the row
pub behind_listed : (s : Size) (xs : List ℕ) (v : ℕ) → IsVertex s v → Contains xs (v + 1) → (v + 1) % cols s ≢ 0 → HasTileBehind s xs (place_at s v)
behind_listed s xs v vertex held other =
    let inside = place_at-inside s v vertex in
    record {
      in_layers = inside.2;
      in_rows = inside.1;
      in_cols = ⊎_elim (λ (less : col_of s v + 1 < cols s). less) (λ (last : cols s ≤ col_of s v + 1). absurd (other (row_end s v last vertex))) (cases_lt (col_of s v + 1) (cols s));
      listed = subst (Contains xs) (sym (vertex_number-next_col s v)) held;
    }

pub is_next_listed : (s : Size) (xs : List ℕ) (v : ℕ) → HasTileBehind s xs (place_at s v) → Contains xs (v + 1)
is_next_listed s xs v behind = subst (Contains xs) (vertex_number-next_col s v) behind.listed

pub none_behind : (s : Size) (xs : List ℕ) (v : ℕ) → (v + 1) % cols s ≡ 0 → ¬ HasTileBehind s xs (place_at s v)
none_behind s xs v first behind = absurd (omega (arith, same_row s v behind.in_cols, first))

-- where the tile behind one stands
pub place_behind : (s : Size) (xs : List ℕ) (w v : ℕ) → HasTileBehind s xs (place_at s w) → v ≡ w + 1 → place_at s v ≡ record { col = col_of s w + 1; row = row_of s w; layer = layer_of s w }
place_behind s xs w v behind next =
    ap (place_at s) (next ∙ sym (vertex_number-next_col s w)) ∙ place_at-number s (col_of s w + 1) (row_of s w) (layer_of s w) behind.in_cols behind.in_rows

-- the tile before the next one of the list is this one
pub before_next : (s : Size) (xs : List ℕ) (w v : ℕ) → IsVertex s w → Contains xs w → v ≡ w + 1 → HasTileBehind s xs (place_at s w) → HasTileBefore s xs (place_at s v)
before_next s xs w v vertex held next behind =
    subst (HasTileBefore s xs) (sym (place_behind s xs w v behind next)) (col_of s w, refl, tile_at_place s xs w vertex held)

-- the number before one of a rising list is in the list only as the one before it
prior_listed : (xs : List ℕ) (at u : ℕ) → IsStrictlyIncreasing xs → at < length xs → Contains xs u → u + 1 ≡ get_or xs at 0 → (j : ℕ) × (j + 1 ≡ at) × (get_or xs j 0 ≡ u)
prior_listed xs at u up within held next =
    let k = held.0 in
    let is : get_or xs k 0 ≡ u = get_or_default xs k 0 u held.1 ∙ held.2 in
    ⊎_elim
    (λ (before : k < at). ⊎_elim
    (λ (far : k + 1 < at). absurd (omega (arith, is, next, rises xs k (k + 1) up (omega arith) (omega (arith, within)), rises xs (k + 1) at up far within)))
    (λ (near : at ≤ k + 1). (k, omega arith, is))
    (cases_lt (k + 1) at))
    (λ (behind : at ≤ k). absurd (omega (arith, is, next, rising_far xs up at k behind held.1)))
    (cases_lt k at)

-- where a tile has one before it in its row, that one stands before it in the list, and it is followed
pub prior_followed : (s : Size) (xs : List ℕ) (at : ℕ) → IsStrictlyIncreasing xs → at < length xs → IsVertex s (get_or xs at 0) → Contains xs (get_or xs at 0) → HasTileBefore s xs (place_at s (get_or xs at 0))
    → (j : ℕ) × (j + 1 ≡ at) × HasTileBehind s xs (place_at s (get_or xs j 0))
prior_followed s xs at up within vertex held before =
    let v = get_or xs at 0 in
    let col = before.0 in
    let u = vertex_number s col (row_of s v) (layer_of s v) in
    let next : u + 1 ≡ v = omega (arith, before.1, vertex_number-place s v) in
    let prior = prior_listed xs at u up within before.2.listed next in
    let here : HasTileBehind s xs (record { col = col; row = row_of s v; layer = layer_of s v }) =
    subst (λ c. HasTile s xs (layer_of s v) (row_of s v) c) (sym before.1) (tile_at_place s xs v vertex held) in
    let there : place_at s (get_or xs prior.0 0) ≡ record { col = col; row = row_of s v; layer = layer_of s v } =
    ap (place_at s) prior.2 ∙ place_at-number s col (row_of s v) (layer_of s v) before.2.in_cols before.2.in_rows in
    (prior.0, prior.1, subst (HasTileBehind s xs) (sym there) here)
