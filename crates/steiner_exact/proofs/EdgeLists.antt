-- The list of a grid's edges holds each of them once, with its number.
use Rattle.std.proofs.Common.{ℕ, ◌*◌, ◌≡◌, ◌≤◌, ◌<◌, ◌↔◌, Bool, true, false, List, [], ◌∷◌, map, length, get_or, refl, sym, ap, subst, inl, inr, ◌∙◌, arith}
use Rattle.std.specs.List.{filter, range_with_len}
use Rattle.std.proofs.lemmas.List.FromFn.{get_or-map-range_with_len, length-map-range_with_len}
use Rattle.std.proofs.lemmas.Bool.{cases_Bool, ltb-true, lt-ltb, and_parts, and_from}
use Rattle.grid_base.specs.declared.axis.Axis.{Axis}
use Rattle.grid_base.specs.declared.axis.Axis.TheVariants.{X, Y}
use Rattle.grid_base.specs.declared.via.Via.{Via as ViaNumber}
use Rattle.grid_base.specs.declared.piece.Piece.{Piece}
use Rattle.grid_base.specs.declared.piece.Piece.TheVariants.{Edge, Via}
use Rattle.grid_base.specs.declared.place.Place.{Place}
use Rattle.grid_base.specs.declared.size.Size.{Size}
use Rattle.grid_base.specs.Numbers.{cols, rows, layers, vertices, place_at, next_along, edge_start, edge_axis, IsPiece, IsInside}
use Rattle.grid_base.proofs.Pieces.{edge-tells}
use Rattle.grid_base.proofs.Places.{place_at-inside}
use Rattle.grid_graph.specs.Flat.{tiles, tile_edge_of, IsFlatOf, AreLeastOver}
use Rattle.grid_graph.specs.Floors.{AreFloors, AreTileFloors}
use Rattle.grid_graph.specs.declared.floors.Floors.{Floors}
use Rattle.grid_graph.specs.Limits.{max_weight}
use Rattle.grid_graph.specs.Weighed.{Weighs, NoPieceTwice, WeighsOnlyPieces, AreWithinLimit}
use Rattle.grid_graph.proofs.Members.{In-Contains, Contains-In, In-map, In-from_map, In-filter, In-from_filter, In-range, In, Differ-filter, Differ-map_range, Differ-HasNoRepeats, Differ}
use Rattle.std.proofs.Math.Nat.{mod-eq_of_lt}
use Rattle.steiner_exact.specs.FlatPieces.{goes_on, has_edge, edge_flags, edges_with}

abbrev edge : ℕ → Piece
edge e = Edge (record { 0 = e })

goes_on-inside : (s : Size) (axis : Axis) (p : Place) → IsInside s p → (goes_on s axis p ≡ true) ↔ IsInside s (next_along axis p)
goes_on-inside s X p inside = ((λ on. (ltb-true _ _ on, inside.1, inside.2)), λ next. lt-ltb _ _ next.0)
goes_on-inside s Y p inside = ((λ on. (inside.0, ltb-true _ _ on, inside.2)), λ next. lt-ltb _ _ next.1)

-- the test tells the edges of the grid
has_edge-piece : (s : Size) (e : ℕ) → (has_edge s e ≡ true) ↔ IsPiece s (edge e)
has_edge-piece s e = (
  (λ has. let parts = and_parts _ _ has in
      let below : e < 2 * vertices s = ltb-true _ _ parts.0 in
      let vertex : edge_start e < vertices s = omega arith in
      (vertex, (goes_on-inside s (edge_axis e) (place_at s (edge_start e)) (place_at-inside s (edge_start e) vertex)).0 parts.1)),
  λ piece. let vertex = piece.0 in
      and_from _ _ (lt-ltb e (2 * vertices s) (omega arith)) ((goes_on-inside s (edge_axis e) (place_at s (edge_start e)) (place_at-inside s (edge_start e) vertex)).1 piece.1),
)

pub edge_below : (s : Size) (e : ℕ) → IsPiece s (edge e) → e < 2 * vertices s
edge_below s e piece = let start = piece.0 in omega arith

-- flags of edge numbers tell the same
pub flag-edge : (s : Size) (e : ℕ) (other : Bool) → e < 2 * vertices s → (get_or (edge_flags s) e other ≡ true) ↔ IsPiece s (edge e)
flag-edge s e other number =
    let is : get_or (edge_flags s) e other ≡ has_edge s e = get_or-map-range_with_len (has_edge s) 0 (2 * vertices s) e e other number (omega arith) in
    ((λ set. (has_edge-piece s e).0 (sym is ∙ set)), λ piece. is ∙ (has_edge-piece s e).1 piece)

pub flags-length : (s : Size) → length (edge_flags s) ≡ 2 * vertices s
flags-length s = length-map-range_with_len (has_edge s) 0 (2 * vertices s)

-- a flag as the test finds it
pub flag-same : (s : Size) (e : ℕ) (found : Bool) → (found ≡ true) ↔ IsPiece s (edge e) → found ≡ has_edge s e
flag-same s e true means = sym ((has_edge-piece s e).1 (means.0 refl))
flag-same s e false means = elim (cases_Bool (has_edge s e)) [
  | inl has ↦ absurd (cc (means.1 ((has_edge-piece s e).0 has)))
  | inr none ↦ sym none
]

-- an edge of the grid is listed with its number
pub edges_with-lists : (s : Size) (f : ℕ → ℕ) (e : ℕ) → IsPiece s (edge e) → Weighs (edges_with s f) (edge e) (f e)
edges_with-lists s f e piece =
    In-Contains _ _ (In-map (λ k. (edge k, f k)) (filter (has_edge s) (range_with_len 0 (2 * vertices s))) e
    (In-filter (has_edge s) (range_with_len 0 (2 * vertices s)) e (In-range 0 (2 * vertices s) e (omega arith) (omega (arith, edge_below s e piece))) ((has_edge-piece s e).1 piece)))

-- and nothing else is
pub record IsListed (s : Size) (f : ℕ → ℕ) (p : Piece) (n : ℕ) : Type 0 where
  pub number : ℕ
  pub is : p ≡ edge number
  pub piece : IsPiece s (edge number)
  pub value : n ≡ f number

pub edges_with-listed : (s : Size) (f : ℕ → ℕ) (p : Piece) (n : ℕ) → Weighs (edges_with s f) p n → IsListed s f p n
edges_with-listed s f p n member =
    let found = In-from_map (λ k. (edge k, f k)) (filter (has_edge s) (range_with_len 0 (2 * vertices s))) (p, n) (Contains-In _ _ member) in
    let kept = In-from_filter (has_edge s) (range_with_len 0 (2 * vertices s)) found.0 found.1 in
    record {
      number = found.0;
      is = sym (ap (λ (x : Piece × ℕ). x.0) found.2);
      piece = (has_edge-piece s found.0).0 kept.1;
      value = sym (ap (λ (x : Piece × ℕ). x.1) found.2);
    }

pub via_not_listed : (s : Size) (f : ℕ → ℕ) (v : ViaNumber) (n : ℕ) → Weighs (edges_with s f) (Via v) n → ⊥
via_not_listed s f v n weighs = let is = (edges_with-listed s f (Via v) n weighs).is in cc

firsts : (f : ℕ → ℕ) (es : List ℕ) → map (λ (x : Piece × ℕ). x.0) (map (λ e. (edge e, f e)) es) ≡ map edge es
firsts f [] = refl
firsts f (e ∷ es) = ap (λ qs. edge e ∷ qs) (firsts f es)

mapped : (t : ℕ → Piece) (es : List ℕ) → ((j k : ℕ) → t j ≡ t k → j ≡ k) → Differ es → Differ (map t es)
mapped t [] tells differ = tt
mapped t (e ∷ es) tells differ = (
  (λ again. let found = In-from_map t es (t e) again in differ.0 (subst (In es) (tells found.0 e found.2) found.1)),
  mapped t es tells differ.1,
)

same_list : (es : List ℕ) → map (λ e. e) es ≡ es
same_list [] = refl
same_list (e ∷ es) = ap (λ ks. e ∷ ks) (same_list es)

pub edges_with-once : (s : Size) (f : ℕ → ℕ) → NoPieceTwice (edges_with s f)
edges_with-once s f =
    let all = range_with_len 0 (2 * vertices s) in
    rw (firsts f (filter (has_edge s) all))
    (Differ-HasNoRepeats _ (mapped edge (filter (has_edge s) all) edge-tells (Differ-filter (has_edge s) all (subst Differ (same_list all) (Differ-map_range (λ e. e) (λ j k same. same) 0 (2 * vertices s))))))

pub edges_with-inside : (s : Size) (f : ℕ → ℕ) → WeighsOnlyPieces s (edges_with s f)
edges_with-inside s f p allowed = let found = edges_with-listed s f p allowed.0 allowed.1 in subst (IsPiece s) (sym found.is) found.piece

pub edges_with-within : (s : Size) (f : ℕ → ℕ) → ((e : ℕ) → f e ≤ max_weight) → AreWithinLimit (edges_with s f)
edges_with-within s f each p n weighs = let found = edges_with-listed s f p n weighs in omega (arith, found.value, each found.number)

-- ---- in a flat grid

product : (a b c x y : ℕ) → a ≡ x → b ≡ y → c ≡ 1 → a * b * c ≡ x * y
product a b c x y first second third = rw (first, second, third) (omega arith)

pub flat_vertices : (flat s : Size) → IsFlatOf flat s → vertices flat ≡ tiles s
flat_vertices flat s is = product (cols flat) (rows flat) (layers flat) (cols s) (rows s) is.cols_of is.rows_of is.single

pub flat_tiles : (flat s : Size) → IsFlatOf flat s → tiles flat ≡ tiles s
flat_tiles flat s is = omega (arith, product (cols flat) (rows flat) 1 (cols s) (rows s) is.cols_of is.rows_of refl)

pub flat_edge_below : (flat s : Size) (e : ℕ) → IsFlatOf flat s → e < 2 * vertices flat → e < 2 * tiles s
flat_edge_below flat s e is below = omega (arith, flat_vertices flat s is, below)

-- each edge is its own tile edge
pub edges_with-under : (flat s : Size) (f : ℕ → ℕ) → IsFlatOf flat s → ((e : ℕ) → f e ≤ max_weight) → AreLeastOver flat (edges_with flat f) f
edges_with-under flat s f is each = record {
  below = λ e n weighs.
      let found = edges_with-listed flat f (Edge e) n weighs in
      let number : e.0 ≡ found.number = edge-tells e.0 found.number found.is in
      let small : e.0 < 2 * tiles flat = omega (arith, number, edge_below flat found.number found.piece, flat_vertices flat s is, flat_tiles flat s is) in
      let own : tile_edge_of flat e.0 ≡ e.0 = mod-eq_of_lt small in
      omega (arith, ap f own, ap f number, found.value);
  within = each;
}

-- floors of tile edges are floors of the flat grid
pub edges_with-floors : (flat s : Size) (f : ℕ → ℕ) (floors : Floors) → IsFlatOf flat s → AreTileFloors s floors f → AreFloors floors (edges_with flat f)
edges_with-floors flat s f floors is low (Edge e) n weighs =
    let found = edges_with-listed flat f (Edge e) n weighs in
    let number : e.0 ≡ found.number = edge-tells e.0 found.number found.is in
    let small : e.0 < 2 * tiles s = flat_edge_below flat s e.0 is (omega (arith, number, edge_below flat found.number found.piece)) in
    omega (arith, low e.0 small, ap f number, found.value)
edges_with-floors flat s f floors is low (Via v) n weighs = absurd (via_not_listed flat f v n weighs)
