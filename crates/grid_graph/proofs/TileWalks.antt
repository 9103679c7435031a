-- Walks of a grid and walks between its tiles, in any grid of the same tiles: below each walk there is one between tiles, and
-- where all vias may be used there is one above each.
use Rattle.std.proofs.Common.{ℕ, zero, suc, ◌≡◌, ◌+◌, ◌*◌, ◌<◌, refl, sym, ap, subst, ◌∙◌, inl, inr, ⊎_elim, arith}
use Rattle.grid_base.specs.declared.edge.Edge.{Edge as EdgeNumber}
use Rattle.grid_base.specs.declared.piece.Piece.{Piece}
use Rattle.grid_base.specs.declared.piece.Piece.TheVariants.{Edge, Via}
use Rattle.grid_base.specs.declared.place.Place.{Place}
use Rattle.grid_base.specs.declared.size.Size.{Size}
use Rattle.grid_base.specs.declared.via.Via.{Via as ViaNumber}
use Rattle.grid_base.specs.Numbers.{cols, rows, layers, vertex_number, col_of, row_of, layer_of, to_next_layer, start_of, end_of, IsVertex, IsPiece, Goes, Connects}
use Rattle.grid_base.specs.Walks.{AreLinked, WalkBetween}
use Rattle.grid_base.proofs.Neighbours.{goes_up}
use Rattle.grid_base.proofs.Pieces.{end_vertex}
use Rattle.grid_base.proofs.Places.{place_at-inside, place_at-number, vertex_number-place, vertex_number-inside}
use Rattle.grid_base.proofs.Walks.{WalkBetween-refl, WalkBetween-sym, WalkBetween-trans, WalkBetween-piece, closed_under_walks}
use Rattle.grid_graph.specs.Flat.{tile_of, HaveSameTiles}
use Rattle.grid_graph.specs.TilePieces.{tile_edge}
use Rattle.grid_graph.proofs.TileSteps.{tile_number, tile_vertex, edge_goes, edge_connects, via_goes}

-- ---- below

-- a via stays over its tile
via_stays : (s : Size) (v : ViaNumber) (a b : ℕ) → Connects s (Via v) a b → tile_of s a ≡ tile_of s b
via_stays s v a b (inl goes) = sym (via_goes s (Via v) v.0 a b refl goes).0
via_stays s v a b (inr goes) = (via_goes s (Via v) v.0 b a refl goes).0

-- each edge of F stands over a piece of G
abbrev pub StandsOver : Size → (Piece → Type 0) → (Piece → Type 0) → Type 0
StandsOver s F G = (e : EdgeNumber) → F (Edge e) → G (tile_edge s e)

step_below : (flat s : Size) (F G : Piece → Type 0) → HaveSameTiles flat s → StandsOver s F G → (t a b : ℕ) (p : Piece) → F p → Connects s p a b → WalkBetween flat G t (tile_of s a) → WalkBetween flat G t (tile_of s b)
step_below flat s F G is over t a b (Edge e) member connects before =
    WalkBetween-trans flat G t (tile_of s a) (tile_of s b) before
    (WalkBetween-piece flat G (tile_edge s e) (tile_of s a) (tile_of s b) (over e member) (edge_connects flat s e.0 a b is connects).0)
step_below flat s F G is over t a b (Via v) member connects before = subst (WalkBetween flat G t) (via_stays s v a b connects) before

-- a walk leads through tiles
pub walk_below : (flat s : Size) (F G : Piece → Type 0) → HaveSameTiles flat s → StandsOver s F G → (a b : ℕ) → WalkBetween s F a b → WalkBetween flat G (tile_of s a) (tile_of s b)
walk_below flat s F G is over a b walk =
    closed_under_walks s F (λ w. WalkBetween flat G (tile_of s a) (tile_of s w))
    (λ u w before link. step_below flat s F G is over (tile_of s a) u w link.piece link.in_set link.connects before)
    a b (WalkBetween-refl flat G (tile_of s a) (tile_vertex flat s a is)) walk

-- ---- above

-- all vias of the grid are in the set
abbrev pub HasVias : Size → (Piece → Type 0) → Type 0
HasVias s F = (v : ViaNumber) → IsPiece s (Via v) → F (Via v)

-- vias lead from the lowest layer up to each
column : (s : Size) (F : Piece → Type 0) → HasVias s F → (col row : ℕ) → col < cols s → row < rows s → (k : ℕ) → k < layers s → WalkBetween s F (vertex_number s col row 0) (vertex_number s col row k)
column s F vias col row in_cols in_rows zero below = WalkBetween-refl s F (vertex_number s col row 0) (vertex_number-inside s (record { col = col; row = row; layer = 0 }) (in_cols, in_rows, below))
column s F vias col row in_cols in_rows (suc k) below =
    let v = vertex_number s col row k in
    let vertex : IsVertex s v = vertex_number-inside s (record { col = col; row = row; layer = k }) (in_cols, in_rows, omega (arith, below)) in
    let at : layer_of s v ≡ k = ap (λ (p : Place). p.layer) (place_at-number s col row k in_cols in_rows) in
    let goes = goes_up s v vertex (omega (arith, at, below)) in
    let next : v + cols s * rows s ≡ vertex_number s col row (suc k) = omega arith in
    WalkBetween-trans s F (vertex_number s col row 0) v (vertex_number s col row (suc k)) (column s F vias col row in_cols in_rows k (omega (arith, below)))
    (subst (WalkBetween s F v) next (WalkBetween-piece s F (to_next_layer v) v (v + cols s * rows s) (vias (record { 0 = v }) goes.0) (inl goes)))

-- so they lead up to a vertex from the one below it in the lowest layer, which has the number of its tile
from_tile : (s : Size) (F : Piece → Type 0) → HasVias s F → (v : ℕ) → IsVertex s v → WalkBetween s F (tile_of s v) v
from_tile s F vias v vertex =
    let at = place_at-inside s v vertex in
    let low : vertex_number s (col_of s v) (row_of s v) 0 ≡ tile_of s v = omega (arith, tile_number s v vertex) in
    subst (λ u. WalkBetween s F u v) low
    (subst (WalkBetween s F (vertex_number s (col_of s v) (row_of s v) 0)) (vertex_number-place s v) (column s F vias (col_of s v) (row_of s v) at.0 at.1 (layer_of s v) at.2))

-- and from a vertex of a tile to each other one
pub same_tile : (s : Size) (F : Piece → Type 0) → HasVias s F → (a b : ℕ) → IsVertex s a → IsVertex s b → tile_of s a ≡ tile_of s b → WalkBetween s F a b
same_tile s F vias a b at_a at_b same =
    WalkBetween-trans s F a (tile_of s a) b (WalkBetween-sym s F (tile_of s a) a (from_tile s F vias a at_a))
    (subst (λ u. WalkBetween s F u b) (sym same) (from_tile s F vias b at_b))

-- each piece of G is the tile edge of an edge of F
abbrev pub StandsUnder : Size → (Piece → Type 0) → (Piece → Type 0) → Type 0
StandsUnder s F G = (p : Piece) → G p → (e : EdgeNumber) × F (Edge e) × (p ≡ tile_edge s e)

-- a walk to one end of an edge leads on to each vertex of the other end's tile
over_edge : (s : Size) (F : Piece → Type 0) → HasVias s F → (e : EdgeNumber) (a b c w : ℕ) → F (Edge e) → Connects s (Edge e) b c → WalkBetween s F a b → IsVertex s w → tile_of s w ≡ tile_of s c → WalkBetween s F a w
over_edge s F vias e a b c w member connects before vertex same =
    WalkBetween-trans s F a b w before
    (WalkBetween-trans s F b c w (WalkBetween-piece s F (Edge e) b c member connects)
    (same_tile s F vias c w (end_vertex s (Edge e) b c connects) vertex (sym same)))

-- walks lead to all vertices of a tile
abbrev ReachesTile : Size → (Piece → Type 0) → ℕ → ℕ → Type 0
ReachesTile s F a t = (v : ℕ) → IsVertex s v → tile_of s v ≡ t → WalkBetween s F a v

step_above : (flat s : Size) (F G : Piece → Type 0) → HaveSameTiles flat s → ((p : Piece) → F p → IsPiece s p) → HasVias s F → StandsUnder s F G → (a t u : ℕ) → ReachesTile s F a t → AreLinked flat G t u → ReachesTile s F a u
step_above flat s F G is only vias under a t u before link w vertex same =
    let found = under link.piece link.in_set in
    let e = found.0 in
    let piece : IsPiece s (Edge e) = only (Edge e) found.1 in
    let near = start_of (Edge e) in
    let far = end_of s (Edge e) in
    let goes : Goes s (Edge e) near far = (piece, refl, refl) in
    let ground = (edge_goes flat s e.0 near far is goes).0 in
    let connects : Connects flat (tile_edge s e) t u = subst (λ p. Connects flat p t u) found.2 link.connects in
    ⊎_elim
    (λ there. over_edge s F vias e a near far w found.1 (inl goes)
    (before near piece.0 (sym ground.1 ∙ there.1)) vertex (same ∙ sym there.2 ∙ ground.2))
    (λ back. over_edge s F vias e a far near w found.1 (inr goes)
    (before far (end_vertex s (Edge e) near far (inl goes)) (sym ground.2 ∙ back.2)) vertex (same ∙ sym back.1 ∙ ground.1))
    connects

-- a walk between tiles has one above it, from each vertex of its first tile to each of its last
pub walk_above : (flat s : Size) (F G : Piece → Type 0) → HaveSameTiles flat s → ((p : Piece) → F p → IsPiece s p) → HasVias s F → StandsUnder s F G → (a b : ℕ) → IsVertex s a → IsVertex s b → WalkBetween flat G (tile_of s a) (tile_of s b) → WalkBetween s F a b
walk_above flat s F G is only vias under a b at_a at_b walk =
    closed_under_walks flat G (ReachesTile s F a)
    (λ t u before link. step_above flat s F G is only vias under a t u before link)
    (tile_of s a) (tile_of s b)
    (λ v vertex same. same_tile s F vias a v at_a vertex (sym same))
    walk b at_b refl
