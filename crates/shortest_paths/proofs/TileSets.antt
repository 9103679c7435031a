-- Least weights of a grid whose vias weigh nothing are those between its tiles: below each set of allowed pieces there is a
-- set of tile edges that joins as much and weighs no more, and the other way round.
use Rattle.std.proofs.Common.{◌≡◌, ℕ, zero, suc, ◌+◌, ◌≤◌, ◌<◌, ◌⊎◌, List, [], ◌∷◌, All, refl, sym, ap, subst, ◌∙◌, inl, inr}
use Rattle.std.proofs.Common.{⊎_elim, arith}
use Rattle.std.specs.List.{Contains}
use Rattle.std.proofs.lemmas.Bool.{cases_eq, cases_lt}
use Rattle.std.proofs.lemmas.List.Elements.{All-contains}
use Rattle.std.proofs.lemmas.List.Sums.{sum_by-cons}
use Rattle.grid_base.specs.declared.edge.Edge.{Edge as EdgeNumber}
use Rattle.grid_base.specs.declared.piece.Piece.{Piece}
use Rattle.grid_base.specs.declared.piece.Piece.TheVariants.{Edge, Via}
use Rattle.grid_base.specs.declared.size.Size.{Size}
use Rattle.grid_base.specs.declared.vertex.Vertex.{Vertex}
use Rattle.grid_base.specs.declared.via.Via.{Via as ViaNumber}
use Rattle.grid_base.specs.Numbers.{vertices, layers, layer_of, start_of, end_of, IsVertex, IsPiece}
use Rattle.grid_base.specs.Walks.{WalkBetween, Joins, InVertices}
use Rattle.grid_base.proofs.Chosen.{Contains-map, made_by_map}
use Rattle.grid_base.proofs.Lists.{head_or_rest, Contains-rest}
use Rattle.grid_base.proofs.Neighbours.{goes_up}
use Rattle.grid_base.proofs.Pieces.{edge-tells}
use Rattle.grid_graph.specs.Flat.{tile_of, tile_edge_of, HaveSameTiles}
use Rattle.grid_graph.specs.TilePieces.{tiles_of, tile_edge, HasFreeVias, AreLeastBetweenTiles}
use Rattle.grid_graph.specs.Weighed.{IsAllowed, WeighsOnlyPieces, AreWithinLimit}
use Rattle.grid_graph.proofs.TileSteps.{edge_goes}
use Rattle.grid_graph.proofs.TileWalks.{walk_below, walk_above}
use Rattle.label_search.specs.Sets.{IsSetOf, IsLeastWeight, IsEither, weight}
use Rattle.label_search.proofs.Sets.{extended, no_pieces}

-- ---- the pieces between tiles

pub tile_pieces : (flat s : Size) (pieces across : List (Piece × ℕ)) → HaveSameTiles flat s → WeighsOnlyPieces s pieces
    → AreLeastBetweenTiles s pieces across → WeighsOnlyPieces flat across
tile_pieces flat s pieces across is only least p allowed =
    let found = least.attained p allowed.0 allowed.1 in
    let e = found.0 in
    let piece : IsPiece s (Edge e) = only (Edge e) (allowed.0, found.1) in
    subst (IsPiece flat) (sym found.2) (edge_goes flat s e.0 (start_of (Edge e)) (end_of s (Edge e)) is (piece, refl, refl)).0.0

pub tile_weights : (s : Size) (pieces across : List (Piece × ℕ)) → AreWithinLimit pieces → AreLeastBetweenTiles s pieces across
    → AreWithinLimit across
tile_weights s pieces across small least p k weighs = let found = least.attained p k weighs in small (Edge found.0) k found.1

-- ---- sets

-- a set between tiles that has the tile edge of each edge of a set, and weighs no more
pub record IsSetBelow (s : Size) (across set : List (Piece × ℕ)) : Type 0 where
  pub below : List (Piece × ℕ)
  pub is_set : IsSetOf across below
  pub has : (e : EdgeNumber) → IsAllowed set (Edge e) → IsAllowed below (tile_edge s e)
  pub light : weight below ≤ weight set

pub set_below : (s : Size) (pieces across set : List (Piece × ℕ)) → AreLeastBetweenTiles s pieces across
    → ((x : Piece × ℕ) → Contains set x → Contains pieces x) → IsSetBelow s across set
set_below s pieces across [] least allowed = record {
  below = [];
  is_set = no_pieces across;
  has = λ e at. absurd (omega (arith, at.1.1));
  light = omega arith;
}
set_below s pieces across ((Edge e, k) ∷ set) least allowed =
    let rest = set_below s pieces across set least (λ x at. allowed x (Contains-rest (Edge e, k) set x at)) in
    let found = least.below e k (allowed (Edge e, k) (0, omega arith, refl)) in
    let more = extended across rest.below (tile_edge s e) found.0 rest.is_set found.1 in
    record {
      below = more.new;
      is_set = more.is_set;
      has = λ f at. ⊎_elim
          (λ same.
          let number : f.0 ≡ e.0 = edge-tells f.0 e.0 (ap (λ (x : Piece × ℕ). x.0) same) in
          subst (λ n. IsAllowed more.new (Edge (record { 0 = tile_edge_of s n }))) (sym number) more.has)
          (λ in_rest. more.kept (tile_edge s f) (rest.has f (at.0, in_rest)))
          (head_or_rest (Edge e, k) set (Edge f, at.0) at.1);
      light = omega (arith, more.light, rest.light, found.2, sum_by-cons (λ (x : Piece × ℕ). x.1) (Edge e, k) set);
    }
set_below s pieces across ((Via v, k) ∷ set) least allowed =
    let rest = set_below s pieces across set least (λ x at. allowed x (Contains-rest (Via v, k) set x at)) in
    record {
      below = rest.below;
      is_set = rest.is_set;
      has = λ f at. ⊎_elim
          (λ same. edge_is_no_via f v (ap (λ (x : Piece × ℕ). x.0) same))
          (λ in_rest. rest.has f (at.0, in_rest))
          (head_or_rest (Via v, k) set (Edge f, at.0) at.1);
      light = omega (arith, rest.light, sum_by-cons (λ (x : Piece × ℕ). x.1) (Via v, k) set);
    }
  where
    edge_is_no_via : {A : Type 0} (f : EdgeNumber) (v : ViaNumber) → Edge f ≡ Via v → A
    edge_is_no_via f v same = absurd cc

-- a set of vias below a number, which weighs nothing
pub record IsViaSet (s : Size) (pieces : List (Piece × ℕ)) (count : ℕ) : Type 0 where
  pub set : List (Piece × ℕ)
  pub is_set : IsSetOf pieces set
  pub has : (v : ViaNumber) → v.0 < count → IsPiece s (Via v) → IsAllowed set (Via v)
  pub light : weight set ≤ 0

via_cases : (s : Size) (v : ViaNumber) → IsPiece s (Via v) ⊎ (¬ IsPiece s (Via v))
via_cases s v = ⊎_elim
    (λ vertex. ⊎_elim
    (λ next. inl (goes_up s v.0 vertex next).0)
    (λ last. inr (λ piece. absurd (omega (arith, last, piece.1.2))))
    (cases_lt (layer_of s v.0 + 1) (layers s)))
    (λ past. inr (λ piece. absurd (omega (arith, past, piece.0))))
    (cases_lt v.0 (vertices s))

vias_below : (s : Size) (pieces : List (Piece × ℕ)) → HasFreeVias s pieces → (count : ℕ) → IsViaSet s pieces count
vias_below s pieces free zero = record {
  set = [];
  is_set = no_pieces pieces;
  has = λ v low piece. absurd (omega (arith, low));
  light = omega arith;
}
vias_below s pieces free (suc n) =
    let rest = vias_below s pieces free n in
    let last : ViaNumber = record { 0 = n } in
    ⊎_elim
    (λ piece.
    let more = extended pieces rest.set (Via last) 0 rest.is_set (free last piece) in
    record {
      set = more.new;
      is_set = more.is_set;
      has = λ v low at. ⊎_elim
          (λ here. subst (λ m. IsAllowed more.new (Via (record { 0 = m }))) (sym here) more.has)
          (λ other. more.kept (Via v) (rest.has v (omega (arith, low, other)) at))
          (cases_eq v.0 n);
      light = omega (arith, more.light, rest.light);
    })
    (λ none. record {
      set = rest.set;
      is_set = rest.is_set;
      has = λ v low at. ⊎_elim
          (λ here. absurd (none (subst (λ m. IsPiece s (Via (record { 0 = m }))) here at)))
          (λ other. rest.has v (omega (arith, low, other)) at)
          (cases_eq v.0 n);
      light = rest.light;
    })
    (via_cases s last)

-- a set that has all vias and over each piece of a set between tiles an edge, and weighs no more
pub record IsSetAbove (s : Size) (pieces set : List (Piece × ℕ)) : Type 0 where
  pub above : List (Piece × ℕ)
  pub is_set : IsSetOf pieces above
  pub vias : (v : ViaNumber) → IsPiece s (Via v) → IsAllowed above (Via v)
  pub has : (p : Piece) → IsAllowed set p → (e : EdgeNumber) × IsAllowed above (Edge e) × (p ≡ tile_edge s e)
  pub light : weight above ≤ weight set

pub set_above : (s : Size) (pieces across set : List (Piece × ℕ)) → HasFreeVias s pieces → AreLeastBetweenTiles s pieces across
    → ((x : Piece × ℕ) → Contains set x → Contains across x) → IsSetAbove s pieces set
set_above s pieces across [] free least allowed =
    let all = vias_below s pieces free (vertices s) in
    record {
      above = all.set;
      is_set = all.is_set;
      vias = λ v piece. all.has v piece.0 piece;
      has = λ p at. absurd (omega (arith, at.1.1));
      light = omega (arith, all.light);
    }
set_above s pieces across (x ∷ set) free least allowed =
    let rest = set_above s pieces across set free least (λ y at. allowed y (Contains-rest x set y at)) in
    let found = least.attained x.0 x.1 (allowed x (0, omega arith, refl)) in
    let more = extended pieces rest.above (Edge found.0) x.1 rest.is_set found.1 in
    record {
      above = more.new;
      is_set = more.is_set;
      vias = λ v piece. more.kept (Via v) (rest.vias v piece);
      has = λ p at. ⊎_elim
          (λ same. (found.0, more.has, ap (λ (y : Piece × ℕ). y.0) same ∙ found.2))
          (λ in_rest. let old = rest.has p (at.0, in_rest) in (old.0, more.kept (Edge old.0) old.1, old.2))
          (head_or_rest x set (p, at.0) at.1);
      light = omega (arith, more.light, rest.light, sum_by-cons (λ (y : Piece × ℕ). y.1) x set);
    }

-- ---- what they join

-- a set joins below what a set joins
pub joined_below : (flat s : Size) (across set : List (Piece × ℕ)) (found : IsSetBelow s across set) → HaveSameTiles flat s
    → (a b : ℕ) → WalkBetween s (IsAllowed set) a b → WalkBetween flat (IsAllowed found.below) (tile_of s a) (tile_of s b)
joined_below flat s across set found is a b walk =
    walk_below flat s (IsAllowed set) (IsAllowed found.below) is found.has a b walk

-- and above all vertices of the tiles that a set between tiles joins
pub joined_above : (flat s : Size) (pieces set : List (Piece × ℕ)) (found : IsSetAbove s pieces set) → HaveSameTiles flat s
    → WeighsOnlyPieces s pieces → (a b : ℕ) → IsVertex s a → IsVertex s b →
    WalkBetween flat (IsAllowed set) (tile_of s a) (tile_of s b) → WalkBetween s (IsAllowed found.above) a b
joined_above flat s pieces set found is only a b at_a at_b walk =
    walk_above flat s (IsAllowed found.above) (IsAllowed set) is
    (λ p at. only p (at.0, found.is_set.allowed (p, at.0) at.1)) found.vias found.has a b at_a at_b walk

-- U holds the tiles of the vertices of T
pub record AreTilesOf (s : Size) (T U : ℕ → Type 0) : Type 0 where
  pub inside : (v : ℕ) → T v → IsVertex s v
  pub tile : (v : ℕ) → T v → U (tile_of s v)
  pub from : (t : ℕ) → U t → (v : ℕ) × T v × (tile_of s v ≡ t)

pub tiles_of_vertices : (s : Size) (terminals : List Vertex) → All (λ (v : Vertex). IsVertex s v.0) terminals
    → AreTilesOf s (InVertices terminals) (InVertices (tiles_of s terminals))
tiles_of_vertices s terminals all = record {
  inside = λ v at. All-contains (λ (t : Vertex). IsVertex s t.0) terminals (record { 0 = v }) all at;
  tile = λ v at. Contains-map (λ (t : Vertex). record { 0 = tile_of s t.0 }) terminals (record { 0 = v }) at;
  from = λ t at.
      let made = made_by_map (λ (v : Vertex). record { 0 = tile_of s v.0 }) terminals (record { 0 = t }) at in
      (made.0.0, made.1, ap (λ (v : Vertex). v.0) made.2);
}

pub tiles_of_two : (s : Size) (a b : ℕ) → IsVertex s a → IsVertex s b
    → AreTilesOf s (IsEither a b) (IsEither (tile_of s a) (tile_of s b))
tiles_of_two s a b at_a at_b = record {
  inside = λ v is. ⊎_elim (λ one. subst (IsVertex s) (sym one) at_a) (λ other. subst (IsVertex s) (sym other) at_b) is;
  tile = λ v is. ⊎_elim (λ one. inl (ap (tile_of s) one)) (λ other. inr (ap (tile_of s) other)) is;
  from = λ t is. ⊎_elim (λ one. (a, inl refl, sym one)) (λ other. (b, inr refl, sym other)) is;
}

-- what walks between vertices is between their tiles
pub joins_tiles : (flat s : Size) (F G : Piece → Type 0) (T U : ℕ → Type 0) → AreTilesOf s T U
    → ((a b : ℕ) → WalkBetween s F a b → WalkBetween flat G (tile_of s a) (tile_of s b)) → Joins s F T → Joins flat G U
joins_tiles flat s F G T U are leads joins t u at_t at_u =
    let a = are.from t at_t in
    let b = are.from u at_u in
    subst (λ m. WalkBetween flat G m u) a.2 (subst (WalkBetween flat G (tile_of s a.0)) b.2
    (leads a.0 b.0 (joins a.0 b.0 a.1 b.1)))

-- ---- least weights

-- terminals are joined where their tiles are
pub joined_by_tiles : (flat s : Size) (pieces across : List (Piece × ℕ)) (T U : ℕ → Type 0) → HaveSameTiles flat s
    → WeighsOnlyPieces s pieces → HasFreeVias s pieces → AreLeastBetweenTiles s pieces across → AreTilesOf s T U →
    Joins flat (IsAllowed across) U → Joins s (IsAllowed pieces) T
joined_by_tiles flat s pieces across T U is only free least are joins a b at_a at_b =
    walk_above flat s (IsAllowed pieces) (IsAllowed across) is only (λ v piece. (0, free v piece))
    (λ p at. let found = least.attained p at.0 at.1 in (found.0, (at.0, found.1), found.2))
    a b (are.inside a at_a) (are.inside b at_b) (joins (tile_of s a) (tile_of s b) (are.tile a at_a) (are.tile b at_b))

-- and the other way round
pub tiles_joined : (flat s : Size) (pieces across : List (Piece × ℕ)) (T U : ℕ → Type 0) → HaveSameTiles flat s
    → AreLeastBetweenTiles s pieces across → AreTilesOf s T U → Joins s (IsAllowed pieces) T → Joins flat (IsAllowed across) U
tiles_joined flat s pieces across T U is least are joins =
    joins_tiles flat s (IsAllowed pieces) (IsAllowed across) T U are
    (walk_below flat s (IsAllowed pieces) (IsAllowed across) is
    (λ e at. let found = least.below e at.0 at.1 in (found.0, found.1)))
    joins

-- the least weight of tiles is that of the vertices
pub least_by_tiles : (flat s : Size) (pieces across : List (Piece × ℕ)) (T U : ℕ → Type 0) (n : ℕ) → HaveSameTiles flat s
    → WeighsOnlyPieces s pieces → HasFreeVias s pieces → AreLeastBetweenTiles s pieces across → AreTilesOf s T U →
    IsLeastWeight flat across U n → IsLeastWeight s pieces T n
least_by_tiles flat s pieces across T U n is only free least are lightest =
    let up = set_above s pieces across lightest.set free least lightest.is_set.allowed in
    let low : (other : List (Piece × ℕ)) → IsSetOf pieces other → Joins s (IsAllowed other) T → n ≤ weight other =
    λ other is_set joins.
    let down = set_below s pieces across other least is_set.allowed in
    omega (
      arith,
      down.light,
      lightest.lightest down.below down.is_set
          (joins_tiles flat s (IsAllowed other) (IsAllowed down.below) T U are
          (joined_below flat s across other down is) joins),
    ) in
    let joins : Joins s (IsAllowed up.above) T = λ a b at_a at_b.
    joined_above flat s pieces lightest.set up is only a b (are.inside a at_a) (are.inside b at_b)
    (lightest.joins (tile_of s a) (tile_of s b) (are.tile a at_a) (are.tile b at_b)) in
    record {
      set = up.above;
      is_set = up.is_set;
      joins = joins;
      weighs = omega (arith, up.light, lightest.weighs, low up.above up.is_set joins);
      lightest = low;
    }

-- and the other way round
pub tiles_least : (flat s : Size) (pieces across : List (Piece × ℕ)) (T U : ℕ → Type 0) (n : ℕ) → HaveSameTiles flat s
    → WeighsOnlyPieces s pieces → HasFreeVias s pieces → AreLeastBetweenTiles s pieces across → AreTilesOf s T U →
    IsLeastWeight s pieces T n → IsLeastWeight flat across U n
tiles_least flat s pieces across T U n is only free least are lightest =
    let down = set_below s pieces across lightest.set least lightest.is_set.allowed in
    let low : (other : List (Piece × ℕ)) → IsSetOf across other → Joins flat (IsAllowed other) U → n ≤ weight other =
    λ other is_set joins.
    let up = set_above s pieces across other free least is_set.allowed in
    omega (
      arith,
      up.light,
      lightest.lightest up.above up.is_set (λ a b at_a at_b.
          joined_above flat s pieces other up is only a b (are.inside a at_a) (are.inside b at_b)
          (joins (tile_of s a) (tile_of s b) (are.tile a at_a) (are.tile b at_b))),
    ) in
    let joins : Joins flat (IsAllowed down.below) U =
    joins_tiles flat s (IsAllowed lightest.set) (IsAllowed down.below) T U are
    (joined_below flat s across lightest.set down is) lightest.joins in
    record {
      set = down.below;
      is_set = down.is_set;
      joins = joins;
      weighs = omega (arith, down.light, lightest.weighs, low down.below down.is_set joins);
      lightest = low;
    }

-- no set between two vertices is lighter than all sets between their tiles
pub within_by_tiles : (flat s : Size) (pieces across : List (Piece × ℕ)) (a b n : ℕ) → HaveSameTiles flat s
    → AreLeastBetweenTiles s pieces across →
    ((set : List (Piece × ℕ)) → IsSetOf across set → WalkBetween flat (IsAllowed set) (tile_of s a) (tile_of s b)
    → n ≤ weight set) →
    (set : List (Piece × ℕ)) → IsSetOf pieces set → WalkBetween s (IsAllowed set) a b → n ≤ weight set
within_by_tiles flat s pieces across a b n is least low set is_set walk =
    let down = set_below s pieces across set least is_set.allowed in
    omega (arith, down.light, low down.below down.is_set (joined_below flat s across set down is a b walk))
