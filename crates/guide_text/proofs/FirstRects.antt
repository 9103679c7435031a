-- The rectangles of the first tiles, tile by tile.
use Rattle.std.proofs.Common.{◌≡◌, ℕ, ◌+◌, ◌<◌, ◌≤◌, List, [], ◌∷◌, ◌++◌, length, get_or, Contains, sym, ap, subst, ◌∙◌, arith, ⊎_elim, Option, Some, None}
use Rattle.std.specs.Prelude.{MatchOption}
use Rattle.std.specs.List.Sorted.{IsStrictlyIncreasing}
use Rattle.std.proofs.lemmas.Bool.{cases_lt}
use Rattle.std.proofs.Math.Seq.{get_or-append_seam}
use Rattle.std.proofs.lemmas.List.{length_push, get_or_append_left, get_or_default}
use Rattle.std.proofs.lemmas.List.Elements.{All-nil, All-push, All-weaker, Contains-append_left, Contains-push}
use Rattle.std.proofs.lemmas.Map.Keys.{sorted_from_strictly_increasing, below_from_sorted}
use Rattle.grid_base.specs.declared.place.Place.{Place}
use Rattle.grid_base.specs.declared.size.Size.{Size}
use Rattle.grid_base.specs.Numbers.{place_at}
use Rattle.guide_text.specs.declared.tile_rect.TileRect.{TileRect}
use Rattle.guide_text.specs.TileRects.{IsTileRect, AreTileRects, AreFirstRects, StandsOn, corner}
use Rattle.guide_text.proofs.Runs.{first_tile, one_end, one_height, corner_place, lowest_run, corner_of_place, stands_at}

-- one rectangle has this lower-left tile
pub one_rect : (s : Size) (tiles : List ℕ) (a b : TileRect) → IsTileRect s tiles a → IsTileRect s tiles b → corner s a ≡ corner s b → a ≡ b
one_rect s tiles a b is_a is_b same =
    let place : record { col = a.first_col; row = a.first_row; layer = a.layer } ≡ record { col = b.first_col; row = b.first_row; layer = b.layer } =
    sym (corner_place s tiles a is_a) ∙ ap (place_at s) same ∙ corner_place s tiles b is_b in
    let cols : a.first_col ≡ b.first_col = ap (λ (p : Place). p.col) place in
    let rows : a.first_row ≡ b.first_row = ap (λ (p : Place). p.row) place in
    let layers : a.layer ≡ b.layer = ap (λ (p : Place). p.layer) place in
    let on : StandsOn a.layer a.first_row a.first_col b = record { in_layer = sym layers; from_row = sym rows; from_col = sym cols } in
    let run = is_a.each a.first_row (omega arith) is_a.order in
    let ends : a.last_col ≡ b.last_col = one_end s tiles a.layer a.first_row a.first_col a.last_col b.last_col run (lowest_run s tiles a.layer a.first_row a.first_col b on is_b) in
    let renamed : b ≡ record { layer = a.layer; first_row = a.first_row; last_row = b.last_row; first_col = a.first_col; last_col = a.last_col } =
    λ i. record { layer = sym layers i; first_row = sym rows i; last_row = b.last_row; first_col = sym cols i; last_col = sym ends i } in
    let tops : a.last_row ≡ b.last_row = one_height s tiles a.layer a.first_row a.first_col a.last_col a.last_row b.last_row is_a (subst (IsTileRect s tiles) renamed is_b) in
    λ i. record { layer = layers i; first_row = rows i; last_row = tops i; first_col = cols i; last_col = ends i }

-- what is known of a run's rectangle is known of its lower-left tile's
pub rect_at_place : (s : Size) (tiles : List ℕ) (v : ℕ) (found : Option TileRect) →
    MatchOption found ((rect : TileRect) → StandsOn (place_at s v).layer (place_at s v).row (place_at s v).col rect → ¬ IsTileRect s tiles rect) (λ rect. IsTileRect s tiles rect × StandsOn (place_at s v).layer (place_at s v).row (place_at s v).col rect)
    → MatchOption found ((rect : TileRect) → corner s rect ≡ v → ¬ IsTileRect s tiles rect) (λ rect. IsTileRect s tiles rect × (corner s rect ≡ v))
rect_at_place s tiles v None none = λ rect at is. none rect (stands_at s tiles rect v is at) is
rect_at_place s tiles v (Some rect) is = (is.0, corner_of_place s v rect is.1)

-- before the first tile there is none
pub no_rects : (s : Size) (tiles : List ℕ) → AreFirstRects s tiles 0 []
no_rects s tiles = record {
  rising = λ k d below. absurd (omega (arith, below));
  only = All-nil (IsTileRect s tiles);
  early = All-nil (λ (rect : TileRect). (k : ℕ) × (k < 0) × (get_or tiles k 0 ≡ corner s rect));
  every = λ rect k is below at. absurd (omega (arith, below));
}

-- a tile more that no rectangle begins with
pub none_more : (s : Size) (tiles : List ℕ) (n : ℕ) (rects : List TileRect) → AreFirstRects s tiles n rects → ((rect : TileRect) → corner s rect ≡ get_or tiles n 0 → ¬ IsTileRect s tiles rect) → AreFirstRects s tiles (n + 1) rects
none_more s tiles n rects are none = record {
  rising = are.rising;
  only = are.only;
  early = All-weaker (λ (rect : TileRect). (k : ℕ) × (k < n) × (get_or tiles k 0 ≡ corner s rect)) (λ (rect : TileRect). (k : ℕ) × (k < n + 1) × (get_or tiles k 0 ≡ corner s rect)) (λ rect held. (held.0, omega (arith, held.1), held.2)) rects are.early;
  every = λ rect k is below at. ⊎_elim
      (λ (less : k < n). are.every rect k is less at)
      (λ (le : n ≤ k). let same : k ≡ n = omega arith in absurd (none rect (sym at ∙ ap (λ j. get_or tiles j 0) same) is))
      (cases_lt k n);
}

-- a tile more with its rectangle
pub some_more : (s : Size) (tiles : List ℕ) (n : ℕ) (rects : List TileRect) (one : TileRect) → IsStrictlyIncreasing tiles → n < length tiles → AreFirstRects s tiles n rects
    → IsTileRect s tiles one → corner s one ≡ get_or tiles n 0 → AreFirstRects s tiles (n + 1) (rects ++ one ∷ [])
some_more s tiles n rects one up within are is at =
    let Early : ℕ → TileRect → Type 0 = λ m rect. (k : ℕ) × (k < m) × (get_or tiles k 0 ≡ corner s rect) in
    record {
      rising = λ k d below. ⊎_elim
          (λ (inner : k + 1 < length rects). rw (get_or_append_left rects (one ∷ []) d k (omega arith), get_or_append_left rects (one ∷ []) d (k + 1) inner) (are.rising k d inner))
          (λ (last : length rects ≤ k + 1).
          let seam : k + 1 ≡ length rects = omega (arith, below, length_push rects one) in
          let early = are.early k d (omega arith) in
          let less : corner s (get_or rects k d) < corner s one = omega (arith, below_from_sorted tiles early.0 n 0 (sorted_from_strictly_increasing tiles up) early.1 within, early.2, at) in
          rw (get_or_append_left rects (one ∷ []) d k (omega arith), seam, get_or-append_seam rects one [] d) less)
          (cases_lt (k + 1) (length rects));
      only = All-push (IsTileRect s tiles) rects one are.only is;
      early = All-push (Early (n + 1)) rects one (All-weaker (Early n) (Early (n + 1)) (λ rect held. (held.0, omega (arith, held.1), held.2)) rects are.early) (n, omega arith, sym at);
      every = λ rect k is_rect below there. ⊎_elim
          (λ (less : k < n). Contains-append_left rects (one ∷ []) rect (are.every rect k is_rect less there))
          (λ (le : n ≤ k).
          let same : k ≡ n = omega arith in
          let equal : one ≡ rect = one_rect s tiles one rect is is_rect (at ∙ sym (ap (λ j. get_or tiles j 0) same) ∙ there) in
          subst (Contains (rects ++ one ∷ [])) equal (Contains-push rects one))
          (cases_lt k n);
    }

-- the lower-left tile of a rectangle is one of the tiles
pub corner_listed : (s : Size) (tiles : List ℕ) (rect : TileRect) → IsTileRect s tiles rect → Contains tiles (corner s rect)
corner_listed s tiles rect is = (first_tile s tiles rect.layer rect.first_row rect.first_col rect.last_col (is.each rect.first_row (omega arith) is.order)).listed

-- those of all tiles are all
pub all_rects : (s : Size) (tiles : List ℕ) (n : ℕ) (rects : List TileRect) → length tiles ≤ n → AreFirstRects s tiles n rects → AreTileRects s tiles rects
all_rects s tiles n rects past are = record {
  rising = are.rising;
  only = are.only;
  every = λ rect is.
      let held = corner_listed s tiles rect is in
      are.every rect held.0 is (omega (arith, held.1)) (get_or_default tiles held.0 0 (corner s rect) held.1 ∙ held.2);
}
