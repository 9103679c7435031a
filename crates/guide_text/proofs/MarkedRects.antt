-- Marks of the tiles inside rectangles.
use Rattle.std.proofs.Common.{◌≡◌, ℕ, ◌+◌, ◌-◌, ◌<◌, ◌≤◌, inl, inr, Bool, true, false, List, [], ◌∷◌, ◌++◌, length, get_or, take, replicate, All, Contains, sym, ap, subst, ◌∙◌, arith, ⊎_elim}
use Rattle.std.specs.Prelude.{IsTrue, not, MatchBool, ◌↔◌}
use Rattle.std.specs.List.{IsAnyAnswer}
use Rattle.std.proofs.Math.Bool.{beq}
use Rattle.std.proofs.lemmas.Bool.{cases_lt}
use Rattle.std.proofs.lemmas.List.{take_more, get_or_default, get_or-replicate, length-replicate}
use Rattle.std.proofs.lemmas.List.Elements.{All-push, All-contains, Contains-append_left, Contains-push, Contains-push_cases, Contains-get_or}
use Rattle.grid_base.specs.declared.piece.Piece.{Piece}
use Rattle.grid_base.specs.declared.size.Size.{Size}
use Rattle.grid_base.specs.Numbers.{vertex_number}
use Rattle.grid_graph.specs.declared.grid.Grid.{Grid}
use Rattle.grid_graph.specs.declared.net_spec.NetSpec.{NetSpec}
use Rattle.grid_graph.specs.Grids.{size_of}
use Rattle.guide_text.specs.declared.guide.Guide.{Guide}
use Rattle.guide_text.specs.declared.rect.Rect.{Rect}
use Rattle.guide_text.specs.declared.tile_rect.TileRect.{TileRect}
use Rattle.guide_text.specs.Covering.{AreWholeTiles, ConsistsOf, Covers, IsAmong, IsCovered, IsInsideRect, IsTiled}
use Rattle.guide_text.specs.Guides.{tiles_on}
use Rattle.guide_text.specs.Marking.{AreMarked, HasEach, IsInRow}
use Rattle.guide_text.proofs.Coverings.{inside_among}
use Rattle.guide_text.proofs.Marks.{all_marked, marked_more, marked_same}
use Rattle.guide_text.proofs.Runs.{not_both}

-- the tile stands in this row of the rectangle
abbrev pub IsInRowOf : Size → TileRect → ℕ → ℕ → Type 0
IsInRowOf s t row v = IsInRow s (record { col = t.first_col; row = row; layer = t.layer }) (t.last_col - t.first_col + 1) v

-- the tile stands in a row of the rectangle that is before this one
abbrev pub IsInRows : Size → TileRect → ℕ → ℕ → Type 0
IsInRows s t end v = (row : ℕ) × (t.first_row ≤ row) × (row < end) × IsInRowOf s t row v

-- a tile of a row of the rectangle is one of its tiles
pub row_among : (s : Size) (t : TileRect) (row v : ℕ) → AreWholeTiles s t → t.first_row ≤ row → row ≤ t.last_row → IsInRowOf s t row v → IsAmong s t v
row_among s t row v whole low high in_row =
    let first = vertex_number s t.first_col row t.layer in
    let order = whole.col_order in
    record {
      row = row;
      col = t.first_col + (v - first);
      first_row = low;
      last_row = high;
      first_col = omega arith;
      last_col = omega (arith, in_row.0, in_row.1, order);
      number = omega (arith, in_row.0);
    }

-- and each of its tiles stands in one of its rows
pub among_row : (s : Size) (t : TileRect) (v : ℕ) → (among : IsAmong s t v) → IsInRowOf s t among.row v
among_row s t v among = (omega (arith, among.number, among.first_col), omega (arith, among.number, among.first_col, among.last_col))

-- the tiles of all rows are those of the rectangle
pub all_rows_marked : (s : Size) (tiles : List ℕ) (t : TileRect) (end : ℕ) (old new : List Bool) → AreWholeTiles s t → end ≡ t.last_row + 1 → AreMarked tiles (IsInRows s t end) old new → AreMarked tiles (IsAmong s t) old new
all_rows_marked s tiles t end old new whole is = marked_same tiles (IsInRows s t end) (IsAmong s t) old new (λ v. (
  λ among. (among.row, among.first_row, omega (arith, among.last_row, is), among_row s t v among),
  λ in_rows. row_among s t in_rows.0 v whole in_rows.1 (omega (arith, in_rows.2, is)) in_rows.3,
))

-- a row more
pub row_marked : (s : Size) (tiles : List ℕ) (t : TileRect) (row : ℕ) (old mid new : List Bool) → t.first_row ≤ row → AreMarked tiles (IsInRows s t row) old mid → AreMarked tiles (IsInRowOf s t row) mid new
    → AreMarked tiles (IsInRows s t (row + 1)) old new
row_marked s tiles t row old mid new low = marked_more tiles (IsInRows s t row) (IsInRowOf s t row) (IsInRows s t (row + 1)) old mid new (λ v. (
  λ in_rows. ⊎_elim
      (λ (less : in_rows.0 < row). inl (in_rows.0, in_rows.1, less, in_rows.3))
      (λ (le : row ≤ in_rows.0). let same : in_rows.0 ≡ row = omega (arith, le, in_rows.2) in inr (subst (λ r. IsInRowOf s t r v) same in_rows.3))
      (cases_lt in_rows.0 row),
  λ either. ⊎_elim (λ before. (before.0, before.1, omega (arith, before.2), before.3)) (λ here. (row, low, omega arith, here)) either,
))

-- the tiles inside a rectangle that consists of tiles are these
inside_same : (g : Grid) (rect : Rect) (t : TileRect) → ConsistsOf g rect t → (v : ℕ) → IsInsideRect g rect v ↔ IsAmong (size_of g) t v
inside_same g rect t is v = (inside_among g t rect v (sym is.1), λ among. (t, is, among))

-- what is known of the tiles is known of the rectangle
pub rect_marked : (g : Grid) (tiles : List ℕ) (rect : Rect) (t : TileRect) (old new : List Bool) (all : Bool) → ConsistsOf g rect t → MatchBool all (AreMarked tiles (IsAmong (size_of g) t) old new) (¬ HasEach tiles (IsAmong (size_of g) t))
    → MatchBool all (IsTiled g rect × AreMarked tiles (IsInsideRect g rect) old new) (¬ (IsTiled g rect × HasEach tiles (IsInsideRect g rect)))
rect_marked g tiles rect t old new true is marked = ((t, is), marked_same tiles (IsAmong (size_of g) t) (IsInsideRect g rect) old new (inside_same g rect t is) marked)
rect_marked g tiles rect t old new false is missing = λ both. missing (λ v among. both.1 v (t, is, among))

-- a rectangle more
pub rects_marked_more : (g : Grid) (tiles : List ℕ) (rects : List Rect) (k : ℕ) (rect d : Rect) (old mid new : List Bool) → k < length rects → rect ≡ get_or rects k d
    → All (IsTiled g) (take k rects) × AreMarked tiles (IsCovered g (take k rects)) old mid → IsTiled g rect × AreMarked tiles (IsInsideRect g rect) mid new
    → All (IsTiled g) (take (k + 1) rects) × AreMarked tiles (IsCovered g (take (k + 1) rects)) old new
rects_marked_more g tiles rects k rect d old mid new within is before here =
    let first = take k rects in
    let more : take (k + 1) rects ≡ first ++ rect ∷ [] = take_more rects k d within ∙ ap (λ (one : Rect). first ++ one ∷ []) (sym is) in
    subst (λ (some : List Rect). All (IsTiled g) some × AreMarked tiles (IsCovered g some) old new) (sym more) (
      All-push (IsTiled g) first rect before.0 here.0,
      marked_more tiles (IsCovered g first) (IsInsideRect g rect) (IsCovered g (first ++ rect ∷ [])) old mid new (λ v. (
        λ covered. ⊎_elim
            (λ earlier. inl (covered.0, earlier, covered.2))
            (λ last. inr (subst (λ (one : Rect). IsInsideRect g one v) (sym last) covered.2))
            (Contains-push_cases first rect covered.0 covered.1),
        λ either. ⊎_elim
            (λ covered. (covered.0, Contains-append_left first (rect ∷ []) covered.0 covered.1, covered.2))
            (λ inside. (rect, Contains-push first rect, inside))
            either,
      )) before.1 here.1,
    )

-- a rectangle that doesn't consist of tiles of the list is one too many
pub not_all_marked : (g : Grid) (tiles : List ℕ) (rects : List Rect) (k : ℕ) (rect d : Rect) → k < length rects → rect ≡ get_or rects k d → ¬ (IsTiled g rect × HasEach tiles (IsInsideRect g rect))
    → ¬ (All (IsTiled g) rects × HasEach tiles (IsCovered g rects))
not_all_marked g tiles rects k rect d within is missing both =
    let held : Contains rects rect = subst (Contains rects) (sym is) (Contains-get_or rects k d within) in
    missing (All-contains (IsTiled g) rects rect both.0 held, λ v inside. both.1 v (rect, held, inside))

-- where not all rectangles are marked, the guide doesn't cover the route
pub not_covering : (g : Grid) (n : NetSpec) (tree : List Piece) (guide : Guide) (tiles : List ℕ) → ((v : ℕ) → Contains tiles v ↔ Contains (tiles_on g n tree) v) → ¬ (All (IsTiled g) guide.rects × HasEach tiles (IsCovered g guide.rects)) → ¬ Covers g n tree guide
not_covering g n tree guide tiles same missing covers = missing (covers.whole, λ v covered. (same v).1 ((covers.exactly v).0 covered))

-- where they are, it does if all tiles have a mark then
pub covering : (g : Grid) (n : NetSpec) (tree : List Piece) (guide : Guide) (tiles : List ℕ) (old new : List Bool) (some : Bool) → ((v : ℕ) → Contains tiles v ↔ Contains (tiles_on g n tree) v) → old ≡ replicate (length tiles) false
    → All (IsTiled g) guide.rects × AreMarked tiles (IsCovered g guide.rects) old new → IsAnyAnswer (λ y t. beq y false ≡ t) new some → IsTrue (not some) ↔ Covers g n tree guide
covering g n tree guide tiles old new some same unmarked are answer =
    let marks = are.1 in
    let long : length new ≡ length tiles = marks.long ∙ ap length unmarked ∙ length-replicate (length tiles) false in (
      λ none. record {
        whole = are.0;
        exactly = λ v. (
          λ covered. (same v).0 (marks.listed v covered),
          λ listed.
              let held = (same v).1 listed in
              let set_now = (all_marked new some answer).0 none held.0 (omega (arith, long, held.1)) in
              ⊎_elim
              (λ before. absurd (not_both (get_or old held.0 false) before (ap (λ (xs : List Bool). get_or xs held.0 false) unmarked ∙ get_or-replicate (length tiles) held.0 false false held.1)))
              (λ covered. subst (IsCovered g guide.rects) (get_or_default tiles held.0 0 v held.1 ∙ held.2) covered)
              ((marks.marked held.0 held.1).0 set_now),
        );
      },
      λ covers. (all_marked new some answer).1 (λ at within.
          let inside : at < length tiles = omega (arith, long, within) in
          (marks.marked at inside).1 (inr ((covers.exactly (get_or tiles at 0)).1 ((same (get_or tiles at 0)).0 (Contains-get_or tiles at 0 inside))))),
    )
