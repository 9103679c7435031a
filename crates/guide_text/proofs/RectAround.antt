-- Each tile lies in a rectangle, and in one alone.
use Rattle.std.proofs.Common.{◌≡◌, ℕ, ◌-◌, ◌<◌, ◌≤◌, List, [], ◌∷◌, Contains, refl, sym, subst, arith, ⊎_elim, ◌⊎◌, inl, inr, ◌∙◌}
use Rattle.std.proofs.lemmas.Bool.{cases_lt}
use Rattle.grid_base.specs.declared.size.Size.{Size}
use Rattle.grid_base.specs.Numbers.{cols, rows, layers, vertex_number}
use Rattle.grid_base.proofs.Lists.{head_or_rest, Contains-rest}
use Rattle.guide_text.specs.declared.tile_rect.TileRect.{TileRect}
use Rattle.guide_text.specs.RouteTiles.{HasTile}
use Rattle.guide_text.specs.TileRects.{IsTileRun, IsTileRect}
use Rattle.guide_text.proofs.Extending.{Decided, reach_down, reach_up}
use Rattle.guide_text.proofs.Runs.{first_tile, one_end}

listed_or_not : (xs : List ℕ) (v : ℕ) → Contains xs v ⊎ ¬ Contains xs v
listed_or_not [] v = inr (λ held. absurd (omega (arith, held.1)))
listed_or_not (x ∷ xs) v = ⊎_elim
    (λ (held : Contains xs v). inl (Contains-rest x xs v held))
    (λ (none : ¬ Contains xs v). ⊎_elim
    (λ (less : x < v). inr (λ held. ⊎_elim (λ (is : v ≡ x). absurd (omega (arith, is))) none (head_or_rest x xs v held)))
    (λ (le : v ≤ x). ⊎_elim
    (λ (more : v < x). inr (λ held. ⊎_elim (λ (is : v ≡ x). absurd (omega (arith, is))) none (head_or_rest x xs v held)))
    (λ (ge : x ≤ v). let same : x ≡ v = omega arith in inl (0, omega arith, same))
    (cases_lt v x))
    (cases_lt x v))
    (listed_or_not xs v)

below_or_not : (a b : ℕ) → (a < b) ⊎ ¬ (a < b)
below_or_not a b = ⊎_elim (λ less. inl less) (λ le. inr (λ less. omega (arith, less, le))) (cases_lt a b)

-- a tile is there or not
has_or_not : (s : Size) (tiles : List ℕ) (layer row : ℕ) → Decided (HasTile s tiles layer row)
has_or_not s tiles layer row col = ⊎_elim
    (λ (in_layers : layer < layers s). ⊎_elim
    (λ (in_rows : row < rows s). ⊎_elim
    (λ (in_cols : col < cols s). ⊎_elim
    (λ (listed : Contains tiles (vertex_number s col row layer)). inl (record { in_layers = in_layers; in_rows = in_rows; in_cols = in_cols; listed = listed }))
    (λ none. inr (λ has. none has.listed))
    (listed_or_not tiles (vertex_number s col row layer)))
    (λ none. inr (λ has. none has.in_cols))
    (below_or_not col (cols s)))
    (λ none. inr (λ has. none has.in_rows))
    (below_or_not row (rows s)))
    (λ none. inr (λ has. none has.in_layers))
    (below_or_not layer (layers s))

-- the run of a tile
pub run_around : (s : Size) (tiles : List ℕ) (layer row col : ℕ) → HasTile s tiles layer row col → (first last : ℕ) × (first ≤ col) × (col ≤ last) × IsTileRun s tiles layer row first last
run_around s tiles layer row col has =
    let decided = has_or_not s tiles layer row in
    let P : ℕ → Type 0 = HasTile s tiles layer row in
    let down = reach_down P decided col has in
    let up = reach_up P decided (cols s) col (λ j past there. omega (arith, past, there.in_cols)) has in (
      down.first,
      up.last,
      down.order,
      up.order,
      record {
        order = omega (arith, down.order, up.order);
        each = λ j low high. ⊎_elim (λ (less : j < col). down.each j low (omega arith)) (λ (le : col ≤ j). up.each j le high) (cases_lt j col);
        before = down.before;
        behind = up.behind;
      },
    )

-- the tiles of a row from one column to another are a run or not
run_or_not : (s : Size) (tiles : List ℕ) (layer first last : ℕ) → Decided (λ row. IsTileRun s tiles layer row first last)
run_or_not s tiles layer first last row = ⊎_elim
    (λ (has : HasTile s tiles layer row first).
    let found = run_around s tiles layer row first has in
    ⊎_elim
    (λ (less : found.0 < first). inr (λ run. run.before (first - 1) (omega (arith, less)) (found.4.each (first - 1) (omega (arith, less)) (omega (arith, less, found.3)))))
    (λ (le : first ≤ found.0).
    let begins : found.0 ≡ first = omega (arith, le, found.2) in
    let run : IsTileRun s tiles layer row first found.1 = subst (λ b. IsTileRun s tiles layer row b found.1) begins found.4 in
    ⊎_elim
    (λ (short : found.1 < last). inr (λ other. let same = one_end s tiles layer row first found.1 last run other in omega (arith, same, short)))
    (λ (ge : last ≤ found.1). ⊎_elim
    (λ (long : last < found.1). inr (λ other. let same = one_end s tiles layer row first found.1 last run other in omega (arith, same, long)))
    (λ (le2 : found.1 ≤ last). let same : found.1 ≡ last = omega arith in inl (subst (λ e. IsTileRun s tiles layer row first e) same run))
    (cases_lt last found.1))
    (cases_lt found.1 last))
    (cases_lt found.0 first))
    (λ none. inr (λ run. none (first_tile s tiles layer row first last run)))
    (has_or_not s tiles layer row first)

-- a rectangle has the tile at this layer, row and column
pub record Encloses (rect : TileRect) (layer row col : ℕ) : Type 0 where
  pub in_layer : rect.layer ≡ layer
  pub first_row : rect.first_row ≤ row
  pub last_row : row ≤ rect.last_row
  pub first_col : rect.first_col ≤ col
  pub last_col : col ≤ rect.last_col

-- the rectangle of a tile
pub rect_around : (s : Size) (tiles : List ℕ) (layer row col : ℕ) → HasTile s tiles layer row col → (rect : TileRect) × IsTileRect s tiles rect × Encloses rect layer row col
rect_around s tiles layer row col has =
    let found = run_around s tiles layer row col has in
    let first = found.0 in
    let last = found.1 in
    let Q : ℕ → Type 0 = λ r. IsTileRun s tiles layer r first last in
    let decided = run_or_not s tiles layer first last in
    let down = reach_down Q decided row found.4 in
    let up = reach_up Q decided (rows s) row (λ j past run. let tile = first_tile s tiles layer j first last run in omega (arith, past, tile.in_rows)) found.4 in (
      record { layer = layer; first_row = down.first; last_row = up.last; first_col = first; last_col = last },
      record {
        order = omega (arith, down.order, up.order);
        each = λ j low high. ⊎_elim (λ (less : j < row). down.each j low (omega arith)) (λ (le : row ≤ j). up.each j le high) (cases_lt j row);
        below = down.before;
        above = up.behind;
      },
      record { in_layer = refl; first_row = down.order; last_row = up.order; first_col = found.2; last_col = found.3 },
    )

-- two runs with a tile in common begin at one column
same_begin : (s : Size) (tiles : List ℕ) (layer row first last other end col : ℕ) → IsTileRun s tiles layer row first last → IsTileRun s tiles layer row other end
    → first ≤ col → col ≤ last → other ≤ col → col ≤ end → first ≡ other
same_begin s tiles layer row first last other end col one two low high from to = ⊎_elim
    (λ (less : first < other). absurd (two.before (other - 1) (omega (arith, less)) (one.each (other - 1) (omega (arith, less)) (omega (arith, less, from, high)))))
    (λ (le : other ≤ first). ⊎_elim
    (λ (more : other < first). absurd (one.before (first - 1) (omega (arith, more)) (two.each (first - 1) (omega (arith, more)) (omega (arith, more, low, to)))))
    (λ (ge : first ≤ other). omega arith)
    (cases_lt other first))
    (cases_lt first other)

-- and two rectangles at one row
same_floor : (s : Size) (tiles : List ℕ) (layer first last one top other end row : ℕ)
    → IsTileRect s tiles (record { layer = layer; first_row = one; last_row = top; first_col = first; last_col = last })
    → IsTileRect s tiles (record { layer = layer; first_row = other; last_row = end; first_col = first; last_col = last })
    → one ≤ row → row ≤ top → other ≤ row → row ≤ end → one ≡ other
same_floor s tiles layer first last one top other end row a b low high from to = ⊎_elim
    (λ (less : one < other). absurd (b.below (other - 1) (omega (arith, less)) (a.each (other - 1) (omega (arith, less)) (omega (arith, less, from, high)))))
    (λ (le : other ≤ one). ⊎_elim
    (λ (more : other < one). absurd (a.below (one - 1) (omega (arith, more)) (b.each (one - 1) (omega (arith, more)) (omega (arith, more, low, to)))))
    (λ (ge : one ≤ other). omega arith)
    (cases_lt other one))
    (cases_lt one other)

-- so two rectangles with a tile in common have one lower-left tile
pub same_corner : (s : Size) (tiles : List ℕ) (a b : TileRect) (layer row col : ℕ) → IsTileRect s tiles a → IsTileRect s tiles b → Encloses a layer row col → Encloses b layer row col
    → vertex_number s a.first_col a.first_row a.layer ≡ vertex_number s b.first_col b.first_row b.layer
same_corner s tiles a b layer row col is_a is_b in_a in_b =
    let layers_same : b.layer ≡ a.layer = in_b.in_layer ∙ sym in_a.in_layer in
    let run_a = is_a.each row in_a.first_row in_a.last_row in
    let run_b = subst (λ l. IsTileRun s tiles l row b.first_col b.last_col) layers_same (is_b.each row in_b.first_row in_b.last_row) in
    let cols_same : a.first_col ≡ b.first_col = same_begin s tiles a.layer row a.first_col a.last_col b.first_col b.last_col col run_a run_b in_a.first_col in_a.last_col in_b.first_col in_b.last_col in
    let run_c = subst (λ f. IsTileRun s tiles a.layer row f b.last_col) (sym cols_same) run_b in
    let ends_same : a.last_col ≡ b.last_col = one_end s tiles a.layer row a.first_col a.last_col b.last_col run_a run_c in
    let renamed : b ≡ record { layer = a.layer; first_row = b.first_row; last_row = b.last_row; first_col = a.first_col; last_col = a.last_col } =
    λ i. record { layer = layers_same i; first_row = b.first_row; last_row = b.last_row; first_col = sym cols_same i; last_col = sym ends_same i } in
    let rows_same : a.first_row ≡ b.first_row = same_floor s tiles a.layer a.first_col a.last_col a.first_row a.last_row b.first_row b.last_row row is_a (subst (IsTileRect s tiles) renamed is_b) in_a.first_row in_a.last_row in_b.first_row in_b.last_row in
    λ i. vertex_number s (cols_same i) (rows_same i) (sym layers_same i)
