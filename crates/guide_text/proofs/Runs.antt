-- Runs of tiles, and the rectangle at a corner.
use Rattle.std.proofs.Common.{◌≡◌, ℕ, ◌+◌, ◌≤◌, ◌<◌, Bool, true, false, List, Contains, sym, ap, subst, ◌∙◌, arith, ⊎_elim}
use Rattle.std.proofs.lemmas.Bool.{cases_lt}
use Rattle.grid_base.specs.declared.place.Place.{Place}
use Rattle.grid_base.specs.declared.size.Size.{Size}
use Rattle.grid_base.specs.Limits.{max_vertices}
use Rattle.grid_base.specs.Numbers.{cols, rows, layers, vertex_number, place_at, IsVertex}
use Rattle.grid_base.proofs.Extents.{cols_within, rows_within}
use Rattle.grid_base.proofs.Places.{place_at-number, place_at-inside, vertex_number-place}
use Rattle.guide_text.specs.declared.tile_rect.TileRect.{TileRect}
use Rattle.guide_text.specs.RouteTiles.{HasTile}
use Rattle.guide_text.specs.TileRects.{IsTileRun, IsTileRect, StandsOn, corner}

pub col_limit : (s : Size) (tiles : List ℕ) (layer row col : ℕ) → HasTile s tiles layer row col → col < max_vertices
col_limit s tiles layer row col has = omega (arith, has.in_cols, cols_within (cols s) (rows s) (layers s) s.within)

pub row_limit : (s : Size) (tiles : List ℕ) (layer row col : ℕ) → HasTile s tiles layer row col → row < max_vertices
row_limit s tiles layer row col has = omega (arith, has.in_rows, rows_within (cols s) (rows s) (layers s) s.within)

-- the first tile of a run
pub first_tile : (s : Size) (tiles : List ℕ) (layer row first last : ℕ) → IsTileRun s tiles layer row first last → HasTile s tiles layer row first
first_tile s tiles layer row first last run = run.each first (omega arith) run.order

pub last_tile : (s : Size) (tiles : List ℕ) (layer row first last : ℕ) → IsTileRun s tiles layer row first last → HasTile s tiles layer row last
last_tile s tiles layer row first last run = run.each last run.order (omega arith)

-- one run begins at a tile
pub one_end : (s : Size) (tiles : List ℕ) (layer row first last other : ℕ) → IsTileRun s tiles layer row first last → IsTileRun s tiles layer row first other → last ≡ other
one_end s tiles layer row first last other run more = ⊎_elim
    (λ (before : last < other). absurd (run.behind (more.each (last + 1) (omega (arith, run.order)) (omega arith))))
    (λ (le : other ≤ last). ⊎_elim
    (λ (behind : other < last). absurd (more.behind (run.each (other + 1) (omega (arith, more.order)) (omega arith))))
    (λ (ge : last ≤ other). omega arith)
    (cases_lt other last))
    (cases_lt last other)

-- the place of a rectangle's corner
pub corner_place : (s : Size) (tiles : List ℕ) (rect : TileRect) → IsTileRect s tiles rect → place_at s (corner s rect) ≡ record { col = rect.first_col; row = rect.first_row; layer = rect.layer }
corner_place s tiles rect is =
    let run = is.each rect.first_row (omega arith) is.order in
    let tile = first_tile s tiles rect.layer rect.first_row rect.first_col rect.last_col run in
    place_at-number s rect.first_col rect.first_row rect.layer tile.in_cols tile.in_rows

pub one_height : (s : Size) (tiles : List ℕ) (layer first_row first_col last_col one other : ℕ) →
    IsTileRect s tiles (record { layer = layer; first_row = first_row; last_row = one; first_col = first_col; last_col = last_col }) →
    IsTileRect s tiles (record { layer = layer; first_row = first_row; last_row = other; first_col = first_col; last_col = last_col }) → one ≡ other
one_height s tiles layer first_row first_col last_col one other rect more = ⊎_elim
    (λ (before : one < other). absurd (rect.above (more.each (one + 1) (omega (arith, rect.order)) (omega arith))))
    (λ (le : other ≤ one). ⊎_elim
    (λ (behind : other < one). absurd (more.above (rect.each (other + 1) (omega (arith, more.order)) (omega arith))))
    (λ (ge : one ≤ other). omega arith)
    (cases_lt other one))
    (cases_lt one other)

-- what holds of each number from one on up to another, and of the next, holds up to the next
pub one_more : (P : ℕ → Type 0) (from i : ℕ) → ((k : ℕ) → from ≤ k → k < i → P k) → P i → (k : ℕ) → from ≤ k → k < i + 1 → P k
one_more P from i before at k low high = ⊎_elim
    (λ (less : k < i). before k low less)
    (λ (le : i ≤ k). let same : i ≡ k = omega arith in subst P same at)
    (cases_lt k i)

pub one_further : (P : ℕ → Type 0) (from i : ℕ) → ((k : ℕ) → from ≤ k → k ≤ i → P k) → P (i + 1) → (k : ℕ) → from ≤ k → k ≤ i + 1 → P k
one_further P from i before at k low high = one_more P from (i + 1) (λ j lo hi. before j lo (omega arith)) at k low (omega arith)

-- alone it holds up to itself
pub one_alone : (P : ℕ → Type 0) (from : ℕ) → P from → (k : ℕ) → from ≤ k → k ≤ from → P k
one_alone P from at k low high = let same : from ≡ k = omega arith in subst P same at

pub not_both : (b : Bool) → b ≡ true → b ≡ false → ⊥
not_both b is_true is_false = let clash : true ≡ false = sym is_true ∙ is_false in cc clash

-- the lowest run of a rectangle, named by where it stands
pub lowest_run : (s : Size) (tiles : List ℕ) (layer row col : ℕ) (rect : TileRect) → StandsOn layer row col rect → IsTileRect s tiles rect → IsTileRun s tiles layer row col rect.last_col
lowest_run s tiles layer row col rect on is =
    let run = is.each rect.first_row (omega arith) is.order in
    subst (λ l. IsTileRun s tiles l row col rect.last_col) on.in_layer
    (subst (λ r. IsTileRun s tiles rect.layer r col rect.last_col) on.from_row
    (subst (λ k. IsTileRun s tiles rect.layer rect.first_row k rect.last_col) on.from_col run))

-- no rectangle begins with a run that has one of the same columns below it
pub other_run : (s : Size) (tiles : List ℕ) (layer row col last below : ℕ) → IsTileRun s tiles layer row col last → below + 1 ≡ row → IsTileRun s tiles layer below col last
    → (rect : TileRect) → StandsOn layer row col rect → ¬ IsTileRect s tiles rect
other_run s tiles layer row col last below run next lower rect on is =
    let same : last ≡ rect.last_col = one_end s tiles layer row col last rect.last_col run (lowest_run s tiles layer row col rect on is) in
    let moved : IsTileRun s tiles rect.layer below rect.first_col rect.last_col =
    subst (λ l. IsTileRun s tiles l below rect.first_col rect.last_col) (sym on.in_layer)
    (subst (λ k. IsTileRun s tiles layer below k rect.last_col) (sym on.from_col)
    (subst (λ e. IsTileRun s tiles layer below col e) same lower)) in
    is.below below (next ∙ sym on.from_row) moved

-- a rectangle stands on the place of its corner
pub stands_at : (s : Size) (tiles : List ℕ) (rect : TileRect) (v : ℕ) → IsTileRect s tiles rect → corner s rect ≡ v → StandsOn (place_at s v).layer (place_at s v).row (place_at s v).col rect
stands_at s tiles rect v is at =
    let place : place_at s v ≡ record { col = rect.first_col; row = rect.first_row; layer = rect.layer } = ap (place_at s) (sym at) ∙ corner_place s tiles rect is in
    record { in_layer = sym (ap (λ (p : Place). p.layer) place); from_row = sym (ap (λ (p : Place). p.row) place); from_col = sym (ap (λ (p : Place). p.col) place) }

pub corner_of_place : (s : Size) (v : ℕ) (rect : TileRect) → StandsOn (place_at s v).layer (place_at s v).row (place_at s v).col rect → corner s rect ≡ v
corner_of_place s v rect on = (λ i. vertex_number s (on.from_col i) (on.from_row i) (on.in_layer i)) ∙ vertex_number-place s v

-- a vertex of the list has a tile at its place
pub tile_at_place : (s : Size) (tiles : List ℕ) (v : ℕ) → IsVertex s v → Contains tiles v → HasTile s tiles (place_at s v).layer (place_at s v).row (place_at s v).col
tile_at_place s tiles v vertex listed =
    let inside = place_at-inside s v vertex in
    record { in_layers = inside.2; in_rows = inside.1; in_cols = inside.0; listed = subst (Contains tiles) (sym (vertex_number-place s v)) listed }

-- no rectangle begins at a tile where no run does
pub no_run_no_rect : (s : Size) (tiles : List ℕ) (v : ℕ) → ((last : ℕ) → ¬ IsTileRun s tiles (place_at s v).layer (place_at s v).row (place_at s v).col last)
    → (rect : TileRect) → corner s rect ≡ v → ¬ IsTileRect s tiles rect
no_run_no_rect s tiles v none rect at is = none rect.last_col (lowest_run s tiles (place_at s v).layer (place_at s v).row (place_at s v).col rect (stands_at s tiles rect v is at) is)
