-- Steps of a grid as steps between tiles, in any grid of the same tiles.
use Rattle.std.proofs.Common.{ℕ, ◌≡◌, ◌+◌, ◌*◌, ◌/◌, ◌%◌, ◌==◌, ◌<◌, cond, refl, sym, ap, subst, ◌∙◌, inl, inr, arith}
use Rattle.std.proofs.Math.Nat.{div-add-mod, mod-lt}
use Rattle.std.proofs.lemmas.Nat.{mul-le, mod-mul-add}
use Rattle.grid_base.specs.declared.axis.Axis.{Axis}
use Rattle.grid_base.specs.declared.axis.Axis.TheVariants.{X, Y}
use Rattle.grid_base.specs.declared.piece.Piece.{Piece}
use Rattle.grid_base.specs.declared.piece.Piece.TheVariants.{Edge, Via}
use Rattle.grid_base.specs.declared.place.Place.{Place}
use Rattle.grid_base.specs.declared.size.Size.{Size}
use Rattle.grid_base.specs.Numbers.{cols, rows, layers, vertex_number, col_of, row_of, layer_of, place_at, next_along, edge_start, edge_axis, start_of, end_of, end_place, IsVertex, IsInside, IsPiece, Goes, Connects}
use Rattle.grid_base.proofs.Pieces.{place_at-end_of, end_of-vertex}
use Rattle.grid_base.proofs.Places.{place_at-inside, place_at-number, vertex_number-place}
use Rattle.grid_graph.specs.Flat.{tiles, tile_of, tile_edge_of, IsFlatOf, HaveSameTiles}

abbrev edge : ℕ → Piece
edge e = Edge (record { 0 = e })

pub some_tiles : (s : Size) → 0 < tiles s
some_tiles s = mul-le 1 1 (cols s) (rows s) s.within.has_col s.within.has_row

same_product : (a b x y : ℕ) → a ≡ x → b ≡ y → a * b ≡ x * y
same_product a b x y first second = rw (first, second) refl

row_end : (c r x y : ℕ) → x < c → y < r → y * c + x < c * r
row_end c r x y in_cols in_rows = omega (arith, mul-le (y + 1) c r c (omega arith) (omega arith))

-- the tile of a vertex by its row and column
pub tile_number : (s : Size) (v : ℕ) → IsVertex s v → tile_of s v ≡ row_of s v * cols s + col_of s v
tile_number s v vertex =
    let at = place_at-inside s v vertex in
    let x = row_of s v * cols s + col_of s v in
    let is : layer_of s v * tiles s + x ≡ v = omega (arith, vertex_number-place s v) in
    ap (λ n. n % tiles s) (sym is) ∙ mod-mul-add (layer_of s v) (tiles s) x (row_end (cols s) (rows s) (col_of s v) (row_of s v) at.0 at.1)

-- a row and a column make up the number of a tile
flat_number : (flat s : Size) (col row : ℕ) → HaveSameTiles flat s → vertex_number flat col row 0 ≡ row * cols s + col
flat_number flat s col row is = omega (arith, ap (λ c. row * c) is.cols_of)

-- the place of a tile
pub tile_place : (flat s : Size) (v : ℕ) → HaveSameTiles flat s → IsVertex s v → place_at flat (tile_of s v) ≡ record { col = col_of s v; row = row_of s v; layer = 0 }
tile_place flat s v is vertex =
    let at = place_at-inside s v vertex in
    ap (place_at flat) (tile_number s v vertex ∙ sym (flat_number flat s (col_of s v) (row_of s v) is))
    ∙ place_at-number flat (col_of s v) (row_of s v) 0 (omega (arith, at.0, is.cols_of)) (omega (arith, at.1, is.rows_of))

-- the same of a vertex whose place is known
pub ground_tile : (s : Size) (v width : ℕ) (place : Place) → IsVertex s v → place ≡ place_at s v → width ≡ cols s → place.row * width + place.col ≡ tile_of s v
ground_tile s v width place vertex at wide =
    ap (λ (p : Place). p.row * width + p.col) at ∙ ap (λ n. row_of s v * n + col_of s v) wide ∙ sym (tile_number s v vertex)

pub ground_place : (flat s : Size) (v number : ℕ) (place : Place) → HaveSameTiles flat s → IsVertex s v → place ≡ place_at s v → number ≡ tile_of s v → record { col = place.col; row = place.row; layer = 0 } ≡ place_at flat number
ground_place flat s v number place is vertex at tile =
    let here : Place → Place = λ p. record { col = p.col; row = p.row; layer = 0 } in
    ap here at ∙ sym (tile_place flat s v is vertex) ∙ ap (place_at flat) (sym tile)

pub tile_vertex : (flat s : Size) (v : ℕ) → HaveSameTiles flat s → IsVertex flat (tile_of s v)
tile_vertex flat s v is =
    let few : tiles flat ≡ tiles s = same_product (cols flat) (rows flat) (cols s) (rows s) is.cols_of is.rows_of in
    omega (arith, mod-lt v (some_tiles s), few, mul-le (tiles flat) 1 (tiles flat) (layers flat) (omega arith) flat.within.has_layer)

-- ---- edges

-- an edge stands on its layer over its tile edge
pub tile_edge-number : (s : Size) (e : ℕ) → e / (2 * tiles s) * (2 * tiles s) + tile_edge_of s e ≡ e
tile_edge-number s e = omega (arith, div-add-mod e (2 * tiles s))

tile_edge-axis : (s : Size) (e : ℕ) → edge_axis (tile_edge_of s e) ≡ edge_axis e
tile_edge-axis s e =
    let same : tile_edge_of s e % 2 ≡ e % 2 = omega (arith, tile_edge-number s e) in ap (λ n. cond (n == 0) X Y) same

tile_edge-start : (s : Size) (e : ℕ) → edge_start (tile_edge_of s e) ≡ tile_of s (edge_start e)
tile_edge-start s e =
    let q = e / (2 * tiles s) in
    let half = tile_edge_of s e / 2 in
    let below : tile_edge_of s e < 2 * tiles s = mod-lt e (omega (arith, some_tiles s)) in
    let small : half < tiles s = omega (arith, below) in
    let is : q * tiles s + half ≡ e / 2 = omega (arith, tile_edge-number s e) in
    sym (mod-mul-add q (tiles s) half small) ∙ ap (λ n. n % tiles s) is

-- the next place on the ground
next_flat : (axis : Axis) (col row layer : ℕ) → next_along axis (record { col = col; row = row; layer = 0 }) ≡ record { col = (next_along axis (record { col = col; row = row; layer = layer })).col; row = (next_along axis (record { col = col; row = row; layer = layer })).row; layer = 0 }
next_flat X col row layer = refl
next_flat Y col row layer = refl

next_layer : (axis : Axis) (p : Place) → (next_along axis p).layer ≡ p.layer
next_layer X p = refl
next_layer Y p = refl

end_flat : (flat s : Size) (e : ℕ) → HaveSameTiles flat s → IsVertex s (edge_start e) → end_place flat (edge (tile_edge_of s e)) ≡ record { col = (end_place s (edge e)).col; row = (end_place s (edge e)).row; layer = 0 }
end_flat flat s e is vertex =
    let v = edge_start e in
    ap (λ (axis : Axis). next_along axis (place_at flat (edge_start (tile_edge_of s e)))) (tile_edge-axis s e)
    ∙ ap (λ (p : Place). next_along (edge_axis e) p) (ap (place_at flat) (tile_edge-start s e) ∙ tile_place flat s v is vertex)
    ∙ next_flat (edge_axis e) (col_of s v) (row_of s v) (layer_of s v)

-- an edge of a grid is one over an edge of the flat grid, and stays on its layer
pub edge_goes : (flat s : Size) (e a b : ℕ) → HaveSameTiles flat s → Goes s (edge e) a b → Goes flat (edge (tile_edge_of s e)) (tile_of s a) (tile_of s b) × (layer_of s b ≡ layer_of s a)
edge_goes flat s e a b is goes =
    let piece : IsPiece s (edge e) = goes.0 in
    let end = end_place s (edge e) in
    let far : end_place flat (edge (tile_edge_of s e)) ≡ record { col = end.col; row = end.row; layer = 0 } = end_flat flat s e is piece.0 in
    let at : place_at s b ≡ end = ap (place_at s) (sym goes.2) ∙ place_at-end_of s (edge e) piece in
    let inside : IsInside flat (record { col = end.col; row = end.row; layer = 0 }) = (omega (arith, piece.1.0, is.cols_of), omega (arith, piece.1.1, is.rows_of), flat.within.has_layer) in
    let vertex_b : IsVertex s b = subst (IsVertex s) goes.2 (end_of-vertex s (edge e) piece) in
    let last : end_of flat (edge (tile_edge_of s e)) ≡ tile_of s b =
    ap (λ (p : Place). vertex_number flat p.col p.row p.layer) far ∙ flat_number flat s end.col end.row is
    ∙ sym (tile_number s b vertex_b ∙ ap (λ (p : Place). p.row * cols s + p.col) at) in (
      (
        (subst (IsVertex flat) (sym (tile_edge-start s e)) (tile_vertex flat s (edge_start e) is), subst (IsInside flat) (sym far) inside),
        tile_edge-start s e ∙ ap (tile_of s) goes.1,
        last,
      ),
      ap (λ (p : Place). p.layer) at ∙ next_layer (edge_axis e) (place_at s (edge_start e)) ∙ ap (layer_of s) goes.1,
    )

pub edge_connects : (flat s : Size) (e a b : ℕ) → HaveSameTiles flat s → Connects s (edge e) a b → Connects flat (edge (tile_edge_of s e)) (tile_of s a) (tile_of s b) × (layer_of s b ≡ layer_of s a)
edge_connects flat s e a b is (inl goes) = let found = edge_goes flat s e a b is goes in (inl found.0, found.1)
edge_connects flat s e a b is (inr goes) = let found = edge_goes flat s e b a is goes in (inr found.0, sym found.1)

-- a via stays over its tile, and leads to the next layer
pub via_goes : (s : Size) (p : Piece) (v a b : ℕ) → p ≡ Via (record { 0 = v }) → Goes s p a b → (tile_of s b ≡ tile_of s a) × (layer_of s b ≡ layer_of s a + 1)
via_goes s p v a b via goes =
    let piece = goes.0 in
    let at : place_at s b ≡ end_place s p = ap (place_at s) (sym goes.2) ∙ place_at-end_of s p piece in
    let is : end_place s p ≡ record { col = col_of s v; row = row_of s v; layer = layer_of s v + 1 } = ap (end_place s) via in
    let here : v ≡ a = ap start_of (sym via) ∙ goes.1 in
    let vertex_b : IsVertex s b = subst (IsVertex s) goes.2 (end_of-vertex s p piece) in
    let vertex_a : IsVertex s a = subst (IsVertex s) goes.1 piece.0 in (
      tile_number s b vertex_b ∙ ap (λ (q : Place). q.row * cols s + q.col) (at ∙ is) ∙ ap (λ u. row_of s u * cols s + col_of s u) here ∙ sym (tile_number s a vertex_a),
      ap (λ (q : Place). q.layer) (at ∙ is) ∙ ap (λ u. layer_of s u + 1) here,
    )

-- the flat grid has the same tiles
pub flat_tiles : (flat s : Size) → IsFlatOf flat s → HaveSameTiles flat s
flat_tiles flat s is = record { cols_of = is.cols_of; rows_of = is.rows_of }
