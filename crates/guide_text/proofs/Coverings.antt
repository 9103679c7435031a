-- The guide of a net covers its route, and its rectangles share no tile.
use Rattle.std.proofs.Common.{◌≡◌, ℕ, ◌+◌, ◌<◌, ◌≤◌, List, length, get_or, map, All, Contains, refl, sym, ap, subst, ◌∙◌, arith, ⊎_elim, pos, Option, Some, None}
use Rattle.std.specs.Option.{option_map}
use Rattle.std.specs.Prelude.{slice_get}
use Rattle.std.specs.List.{AllAdjacentBelow}
use Rattle.std.proofs.lemmas.Bool.{cases_lt}
use Rattle.std.proofs.lemmas.Int.{ints}
use Rattle.std.proofs.lemmas.List.Elements.{All-weaker, All-map, All-contains}
use Rattle.std.proofs.lemmas.List.Sorted.{IsNonDecreasingBy-from_all_adjacent}
use Rattle.std.proofs.lemmas.Option.{slice_get-map, slice_get_within, get_or_from_slice_get, same_Some}
use Rattle.grid_base.specs.declared.piece.Piece.{Piece}
use Rattle.grid_base.specs.declared.place.Place.{Place}
use Rattle.grid_base.specs.declared.size.Size.{Size}
use Rattle.grid_base.specs.Lists.{At}
use Rattle.grid_base.specs.Numbers.{place_at, vertex_number, IsVertex}
use Rattle.grid_base.proofs.Chosen.{Contains-map, made_by_map}
use Rattle.grid_base.proofs.Lists.{member_from_place}
use Rattle.grid_base.proofs.Places.{place_at-number, vertex_number-place}
use Rattle.grid_graph.specs.declared.grid.Grid.{Grid}
use Rattle.grid_graph.specs.declared.net_spec.NetSpec.{NetSpec}
use Rattle.grid_graph.specs.Grids.{size_of, layout_of}
use Rattle.grid_graph.specs.Nets.{IsNet}
use Rattle.tree_set.specs.Routings.{ArePieces}
use Rattle.guide_text.specs.declared.guide.Guide.{Guide}
use Rattle.guide_text.specs.declared.rect.Rect.{Rect}
use Rattle.guide_text.specs.declared.tile_rect.TileRect.{TileRect}
use Rattle.guide_text.specs.Covering.{IsAmong, IsInsideRect, IsTiled, Covers, ShareNoTile}
use Rattle.guide_text.specs.Guides.{rect_of, tiles_on, IsGuideOf}
use Rattle.guide_text.specs.RouteTiles.{HasTile}
use Rattle.guide_text.specs.TileRects.{IsTileRect, corner}
use Rattle.guide_text.proofs.BorderTiles.{same_index}
use Rattle.guide_text.proofs.RectAround.{Encloses, rect_around, same_corner}
use Rattle.guide_text.proofs.Runs.{tile_at_place}
use Rattle.guide_text.proofs.Vertices.{tiles_are_vertices, terminals_are_vertices}
use Rattle.guide_text.proofs.WholeRects.{rect_is_whole}

same_layer : (i j : ℕ) → pos (i + 1) ≡ pos (j + 1) → i ≡ j
same_layer i j same = omega (arith, ints, same)

-- a rectangle consists of one list of tiles
same_tiles : (g : Grid) (a b : TileRect) → rect_of g a ≡ rect_of g b → a ≡ b
same_tiles g a b same =
    let of = layout_of g in
    let limits = g.limits in
    let left = same_index of.origin.0 of.tile.0 a.first_col b.first_col limits.tile_width.low (ap (λ (r : Rect). r.x1) same) in
    let low = same_index of.origin.1 of.tile.1 a.first_row b.first_row limits.tile_height.low (ap (λ (r : Rect). r.y1) same) in
    let right : a.last_col ≡ b.last_col = omega (arith, same_index of.origin.0 of.tile.0 (a.last_col + 1) (b.last_col + 1) limits.tile_width.low (ap (λ (r : Rect). r.x2) same)) in
    let high : a.last_row ≡ b.last_row = omega (arith, same_index of.origin.1 of.tile.1 (a.last_row + 1) (b.last_row + 1) limits.tile_height.low (ap (λ (r : Rect). r.y2) same)) in
    let layer = same_layer a.layer b.layer (ap (λ (r : Rect). r.layer) same) in
    λ i. record { layer = layer i; first_row = low i; last_row = high i; first_col = left i; last_col = right i }

-- a tile of a rectangle is a tile of the route, at its place
among_has : (s : Size) (tiles : List ℕ) (rect : TileRect) (v : ℕ) → IsTileRect s tiles rect → (among : IsAmong s rect v) → HasTile s tiles rect.layer among.row among.col
among_has s tiles rect v is among = (is.each among.row among.first_row among.last_row).each among.col among.first_col among.last_col

-- and the rectangle encloses its place
among_enclosed : (s : Size) (tiles : List ℕ) (rect : TileRect) (v : ℕ) → IsTileRect s tiles rect → IsAmong s rect v → Encloses rect (place_at s v).layer (place_at s v).row (place_at s v).col
among_enclosed s tiles rect v is among =
    let has = among_has s tiles rect v is among in
    let place : place_at s v ≡ record { col = among.col; row = among.row; layer = rect.layer } =
    ap (place_at s) (sym among.number) ∙ place_at-number s among.col among.row rect.layer has.in_cols has.in_rows in
    record {
      in_layer = sym (ap (λ (p : Place). p.layer) place);
      first_row = subst (λ r. rect.first_row ≤ r) (sym (ap (λ (p : Place). p.row) place)) among.first_row;
      last_row = subst (λ r. r ≤ rect.last_row) (sym (ap (λ (p : Place). p.row) place)) among.last_row;
      first_col = subst (λ k. rect.first_col ≤ k) (sym (ap (λ (p : Place). p.col) place)) among.first_col;
      last_col = subst (λ k. k ≤ rect.last_col) (sym (ap (λ (p : Place). p.col) place)) among.last_col;
    }

enclosed_among : (s : Size) (rect : TileRect) (v : ℕ) → Encloses rect (place_at s v).layer (place_at s v).row (place_at s v).col → IsAmong s rect v
enclosed_among s rect v enclosed = record {
  row = (place_at s v).row;
  col = (place_at s v).col;
  first_row = enclosed.first_row;
  last_row = enclosed.last_row;
  first_col = enclosed.first_col;
  last_col = enclosed.last_col;
  number = ap (λ layer. vertex_number s (place_at s v).col (place_at s v).row layer) enclosed.in_layer ∙ vertex_number-place s v;
}

-- a tile inside a rectangle that is made of tiles is one of these
pub inside_among : (g : Grid) (t : TileRect) (rect : Rect) (v : ℕ) → rect_of g t ≡ rect → IsInsideRect g rect v → IsAmong (size_of g) t v
inside_among g t rect v made inside = subst (λ u. IsAmong (size_of g) u v) (sym (same_tiles g t inside.0 (made ∙ inside.1.1))) inside.2

pub guide_covers : (g : Grid) (n : NetSpec) (tree : List Piece) (guide : Guide) → IsNet g n → ArePieces (size_of g) tree → IsGuideOf g n tree guide → Covers g n tree guide
guide_covers g n tree guide net pieces is =
    let s = size_of g in
    let tiles = tiles_on g n tree in
    let rects = is.tile_rects in
    record {
      whole = subst (All (IsTiled g)) (sym is.rects) (All-map (IsTiled g) (rect_of g) rects (All-weaker (IsTileRect s tiles) (λ t. IsTiled g (rect_of g t)) (λ t one. (t, (rect_is_whole s tiles t one, refl))) rects is.longest.only));
      exactly = λ v. (
        λ covered.
            let made = made_by_map (rect_of g) rects covered.0 (subst (λ (xs : List Rect). Contains xs covered.0) is.rects covered.1) in
            let one = All-contains (IsTileRect s tiles) rects made.0 is.longest.only made.1 in
            let among = inside_among g made.0 covered.0 v made.2 covered.2 in
            subst (Contains tiles) among.number (among_has s tiles made.0 v one among).listed,
        λ listed.
            let vertex : IsVertex s v = All-contains (IsVertex s) tiles v (tiles_are_vertices s tree n.terminals pieces (terminals_are_vertices g n net)) listed in
            let place = place_at s v in
            let found = rect_around s tiles place.layer place.row place.col (tile_at_place s tiles v vertex listed) in
            let held = subst (λ (xs : List Rect). Contains xs (rect_of g found.0)) (sym is.rects) (Contains-map (rect_of g) rects found.0 (is.longest.every found.0 found.1)) in
            (rect_of g found.0, held, (found.0, (rect_is_whole s tiles found.0 found.1, refl), enclosed_among s found.0 v found.2)),
      );
    }

-- what stands at a place of a mapped list is made of what stands there
at_mapped : {X Y : Type 0} (f : X → Y) (xs : List X) (i : ℕ) (y : Y) → At (map f xs) i y → (x : X) × At xs i x × (f x ≡ y)
at_mapped {X} {Y} f xs i y at = found (slice_get xs i) refl (sym (slice_get-map f xs i) ∙ at)
  where
    found : (o : Option X) → slice_get xs i ≡ o → option_map f o ≡ Some y → (x : X) × At xs i x × (f x ≡ y)
    found None is none = absurd (cc none)
    found (Some x) is made = (x, is, same_Some (f x) y made)

-- a rectangle has a lower corner than each later one
corner_rises : (s : Size) (rects : List TileRect) (i j : ℕ) (d : TileRect) → AllAdjacentBelow (λ one next. corner s one < corner s next) rects (length rects) → i < j → j < length rects
    → corner s (get_or rects i d) < corner s (get_or rects j d)
corner_rises s rects i j d rising before within =
    let first = rising i d (omega arith) in
    let rest = IsNonDecreasingBy-from_all_adjacent (corner s) rects (λ k e below. omega (arith, rising k e below)) (i + 1) j d (omega arith) within in
    omega (arith, first, rest)

not_before : (s : Size) (rects : List TileRect) (i j : ℕ) (a b : TileRect) → AllAdjacentBelow (λ one next. corner s one < corner s next) rects (length rects) → At rects i a → At rects j b → corner s a ≡ corner s b → ¬ (i < j)
not_before s rects i j a b rising at_i at_j same less =
    let rises = corner_rises s rects i j a rising less (slice_get_within rects j b at_j) in
    let one = ap (corner s) (get_or_from_slice_get rects i a a at_i) in
    let other = ap (corner s) (get_or_from_slice_get rects j b a at_j) in
    omega (arith, rises, one, other, same)

pub guide_shares_no_tile : (g : Grid) (n : NetSpec) (tree : List Piece) (guide : Guide) → IsGuideOf g n tree guide → ShareNoTile g guide.rects
guide_shares_no_tile g n tree guide is i j one other v at_i at_j in_one in_other =
    let s = size_of g in
    let tiles = tiles_on g n tree in
    let rects = is.tile_rects in
    let a = at_mapped (rect_of g) rects i one (subst (λ (xs : List Rect). At xs i one) is.rects at_i) in
    let b = at_mapped (rect_of g) rects j other (subst (λ (xs : List Rect). At xs j other) is.rects at_j) in
    let is_a = All-contains (IsTileRect s tiles) rects a.0 is.longest.only (member_from_place rects i a.0 a.1) in
    let is_b = All-contains (IsTileRect s tiles) rects b.0 is.longest.only (member_from_place rects j b.0 b.1) in
    let in_a = among_enclosed s tiles a.0 v is_a (inside_among g a.0 one v a.2 in_one) in
    let in_b = among_enclosed s tiles b.0 v is_b (inside_among g b.0 other v b.2 in_other) in
    let same = same_corner s tiles a.0 b.0 (place_at s v).layer (place_at s v).row (place_at s v).col is_a is_b in_a in_b in
    ⊎_elim
    (λ (less : i < j). absurd (not_before s rects i j a.0 b.0 is.longest.rising a.1 b.1 same less))
    (λ (le : j ≤ i). ⊎_elim
    (λ (more : j < i). absurd (not_before s rects j i b.0 a.0 is.longest.rising b.1 a.1 (sym same) more))
    (λ (ge : i ≤ j). omega arith)
    (cases_lt j i))
    (cases_lt i j)
