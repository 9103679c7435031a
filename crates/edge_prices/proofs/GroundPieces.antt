-- The list of a ground's pieces holds each of them once, with its number.
use Rattle.std.proofs.Common.{ℕ, ◌+◌, ◌*◌, ◌≡◌, ◌≢◌, ◌<◌, ◌↔◌, true, ltb, ◌&&◌, List, [], ◌∷◌, map, refl, sym, ap, ◌∙◌, arith, subst}
use Rattle.std.specs.List.{filter, range_with_len}
use Rattle.std.proofs.lemmas.Bool.{ltb-true, lt-ltb, and_parts, and_from}
use Rattle.grid_base.specs.declared.edge.Edge.{Edge as EdgeNumber}
use Rattle.grid_base.specs.declared.via.Via.{Via as ViaNumber}
use Rattle.grid_base.specs.declared.piece.Piece.{Piece}
use Rattle.grid_base.specs.declared.piece.Piece.TheVariants.{Edge, Via}
use Rattle.grid_base.specs.declared.size.Size.{Size}
use Rattle.grid_base.specs.Numbers.{layers, vertices, layer_of, to_next_layer, IsPiece}
use Rattle.grid_base.proofs.Pieces.{edge-tells, via-tells}
use Rattle.grid_base.proofs.Places.{place_at-inside}
use Rattle.grid_graph.specs.declared.grid.Grid.{Grid}
use Rattle.grid_graph.specs.declared.ground.Ground.{Ground}
use Rattle.grid_graph.specs.declared.ground.Ground.TheVariants.{Open, WithChoked}
use Rattle.grid_graph.specs.declared.kind.Kind.{Kind}
use Rattle.grid_graph.specs.declared.kind.Kind.TheVariants as kinds
use Rattle.grid_graph.specs.Grids.{size_of, kind, Allows, edge_numbers}
use Rattle.grid_graph.specs.Weighed.{Weighs, IsAllowed, NoPieceTwice, WeighsOnlyPieces}
use Rattle.grid_graph.proofs.Allowed.{Allows-IsPiece}
use Rattle.edge_prices.specs.PieceLists.{admits, has_piece, edge, all_pieces, pieces_with, AreGroundPieces}
use Rattle.grid_graph.proofs.Members.{In, In-Contains, Contains-In, In-map, In-from_map, In-filter, In-from_filter, In-append_left, In-append_right, In-range, Differ, Differ-filter, Differ-append, Differ-map_range, Differ-HasNoRepeats}

edge-via : (j k : ℕ) → edge j ≡ to_next_layer k → ⊥
edge-via j k same = cc

-- no piece is listed twice
all_pieces-Differ : (g : Grid) → Differ (all_pieces g)
all_pieces-Differ g =
    Differ-append (map edge (range_with_len 0 (edge_numbers g))) (map to_next_layer (range_with_len 0 (vertices (size_of g))))
    (Differ-map_range edge edge-tells 0 (edge_numbers g)) (Differ-map_range to_next_layer via-tells 0 (vertices (size_of g)))
    (λ p first second. let e = In-from_map edge _ p first in let v = In-from_map to_next_layer _ p second in edge-via e.0 v.0 (e.2 ∙ sym v.2))

-- each piece of the ground is listed
has_piece-listed : (g : Grid) (over : Ground) (p : Piece) → has_piece g over p ≡ true → In (all_pieces g) p
has_piece-listed g over (Edge e) is =
    In-append_left _ (map to_next_layer (range_with_len 0 (vertices (size_of g)))) _ (In-map edge _ e.0 (In-range 0 (edge_numbers g) e.0 (omega arith) (omega (arith, ltb-true _ _ (and_parts _ (admits over (kind g e.0)) is).0))))
has_piece-listed g over (Via v) is =
    In-append_right (map edge (range_with_len 0 (edge_numbers g))) _ _ (In-map to_next_layer _ v.0 (In-range 0 (vertices (size_of g)) v.0 (omega arith) (omega (arith, ltb-true _ _ (and_parts _ (ltb (layer_of (size_of g) v.0 + 1) (layers (size_of g))) is).0))))

-- ---- the test of a piece

admits-Open : (k : Kind) → (admits Open k ≡ true) ↔ (k ≡ kinds.Open)
admits-Open kinds.Open = ((λ _. refl), λ _. refl)
admits-Open kinds.Choked = ((λ h. cc), λ h. cc)
admits-Open kinds.Wall = ((λ h. cc), λ h. cc)

admits-WithChoked : (k : Kind) → (admits WithChoked k ≡ true) ↔ (k ≢ kinds.Wall)
admits-WithChoked kinds.Open = ((λ _ h. cc), λ _. refl)
admits-WithChoked kinds.Choked = ((λ _ h. cc), λ _. refl)
admits-WithChoked kinds.Wall = ((λ h. cc), λ h. absurd (h refl))

below_twice : (s : Size) (e : EdgeNumber) → IsPiece s (Edge e) → e.0 < 2 * vertices s
below_twice s e piece = let start = piece.0 in omega arith

-- an edge that is allowed has an edge number
pub allowed_number : (g : Grid) (over : Ground) (e : EdgeNumber) → Allows g over (Edge e) → e.0 < edge_numbers g
allowed_number g over e allowed = below_twice (size_of g) e (Allows-IsPiece g over (Edge e) allowed)

edge-number : (g : Grid) (over : Ground) (e : EdgeNumber) → Allows g over (Edge e) → ltb e.0 (edge_numbers g) ≡ true
edge-number g over e allowed = lt-ltb _ _ (allowed_number g over e allowed)

via_test : (s : Size) (v : ViaNumber) → (ltb v.0 (vertices s) && ltb (layer_of s v.0 + 1) (layers s) ≡ true) ↔ IsPiece s (Via v)
via_test s v = (
  (λ test. let parts = and_parts _ _ test in
      let vertex = ltb-true _ _ parts.0 in
      let inside = place_at-inside s v.0 vertex in (vertex, (inside.0, inside.1, ltb-true _ _ parts.1))),
  λ piece. and_from _ _ (lt-ltb _ _ piece.0) (lt-ltb _ _ piece.1.2),
)

-- the test tells the pieces that the ground allows
pub has_piece-Allows : (g : Grid) (over : Ground) (p : Piece) → (has_piece g over p ≡ true) ↔ Allows g over p
has_piece-Allows g Open (Edge e) = (
  (λ test. (admits-Open (kind g e.0)).0 (and_parts _ _ test).1),
  λ allowed. and_from _ _ (edge-number g Open e allowed) ((admits-Open (kind g e.0)).1 allowed),
)
has_piece-Allows g WithChoked (Edge e) = (
  (λ test. (admits-WithChoked (kind g e.0)).0 (and_parts _ _ test).1),
  λ allowed. and_from _ _ (edge-number g WithChoked e allowed) ((admits-WithChoked (kind g e.0)).1 allowed),
)
has_piece-Allows g Open (Via v) = via_test (size_of g) v
has_piece-Allows g WithChoked (Via v) = via_test (size_of g) v

-- ---- the list

-- the pieces of the list are those of the ground, and each has its number
pub pieces_with-Weighs : (g : Grid) (over : Ground) (f : Piece → ℕ) (p : Piece) (n : ℕ) → Weighs (pieces_with g over f) p n ↔ (Allows g over p × (n ≡ f p))
pieces_with-Weighs g over f p n = (
  (λ member. let found = In-from_map (λ p. (p, f p)) (filter (has_piece g over) (all_pieces g)) (p, n) (Contains-In _ _ member) in
      let same : found.0 ≡ p = ap (λ x. x.0) found.2 in
      let number : f found.0 ≡ n = ap (λ x. x.1) found.2 in
      let kept = In-from_filter (has_piece g over) (all_pieces g) found.0 found.1 in
      ((has_piece-Allows g over p).0 (ap (has_piece g over) (sym same) ∙ kept.1), sym number ∙ ap f same)),
  λ facts. rw facts.1 (In-Contains _ _ (In-map (λ p. (p, f p)) (filter (has_piece g over) (all_pieces g)) p
      (let test = (has_piece-Allows g over p).1 facts.0 in In-filter (has_piece g over) (all_pieces g) p (has_piece-listed g over p test) test))),
)

firsts : (f : Piece → ℕ) (ps : List Piece) → map (λ (x : Piece × ℕ). x.0) (map (λ p. (p, f p)) ps) ≡ ps
firsts f [] = refl
firsts f (p ∷ ps) = ap (λ qs. p ∷ qs) (firsts f ps)

pub pieces_with-NoPieceTwice : (g : Grid) (over : Ground) (f : Piece → ℕ) → NoPieceTwice (pieces_with g over f)
pieces_with-NoPieceTwice g over f =
    rw (firsts f (filter (has_piece g over) (all_pieces g)))
    (Differ-HasNoRepeats _ (Differ-filter (has_piece g over) (all_pieces g) (all_pieces-Differ g)))

pub pieces_with-WeighsOnlyPieces : (g : Grid) (over : Ground) (f : Piece → ℕ) → WeighsOnlyPieces (size_of g) (pieces_with g over f)
pieces_with-WeighsOnlyPieces g over f p allowed = Allows-IsPiece g over p ((pieces_with-Weighs g over f p allowed.0).0 allowed.1).0

-- what holds of the pieces of equal grids, grounds, widths and prices
pub AreGroundPieces-same : (f : Grid → ℕ → List ℕ → Piece → ℕ) (h g : Grid) (o over : Ground) (w width : ℕ) (old prices : List ℕ) (pieces : List (Piece × ℕ)) →
    h ≡ g → o ≡ over → w ≡ width → old ≡ prices → AreGroundPieces h o (f h w old) pieces → AreGroundPieces g over (f g width prices) pieces
AreGroundPieces-same f h g o over w width old prices pieces grid ground wide priced are =
    let by_prices = subst (λ x. AreGroundPieces h o (f h w x) pieces) priced are in
    let by_width = subst (λ x. AreGroundPieces h o (f h x prices) pieces) wide by_prices in
    let by_ground = subst (λ x. AreGroundPieces h x (f h width prices) pieces) ground by_width in
    subst (λ x. AreGroundPieces x over (f x width prices) pieces) grid by_ground

pub pieces_with-IsAllowed : (g : Grid) (over : Ground) (f : Piece → ℕ) (p : Piece) → IsAllowed (pieces_with g over f) p ↔ Allows g over p
pieces_with-IsAllowed g over f p = (
  (λ allowed. ((pieces_with-Weighs g over f p allowed.0).0 allowed.1).0),
  λ allows. (f p, (pieces_with-Weighs g over f p (f p)).1 (allows, refl)),
)
