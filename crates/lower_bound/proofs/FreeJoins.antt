-- Vertices that pieces without weight join: least weights are those of vertices that stand for them.
use Rattle.std.proofs.Common.{◌≡◌, ℕ, ◌==◌, ◌<◌, ◌≤◌, Bool, true, List, All, length, get_or, option_map, slice_index, refl, sym, ap, subst, ◌∙◌, inl, inr, ⊎_elim, arith, eqb-true}
use Rattle.std.specs.List.{Contains, filter}
use Rattle.std.proofs.lemmas.List.{length-map}
use Rattle.std.proofs.Math.Nat.{mul-zero}
use Rattle.std.proofs.lemmas.List.Elements.{All-contains, All-weaker, filter_passes}
use Rattle.std.proofs.lemmas.List.Sums.{sum_by-le}
use Rattle.std.proofs.lemmas.Option.{same_Some, slice_get-map, slice_get-get_or, slice_get_within, get_or_from_slice_get}
use Rattle.grid_base.specs.declared.piece.Piece.{Piece}
use Rattle.grid_base.specs.declared.size.Size.{Size}
use Rattle.grid_base.specs.declared.vertex.Vertex.{Vertex}
use Rattle.grid_base.specs.Lists.{At}
use Rattle.grid_base.specs.Numbers.{IsVertex}
use Rattle.grid_base.specs.Walks.{WalkBetween, Joins, InVertices}
use Rattle.grid_base.proofs.Chosen.{Contains-map, made_by_map}
use Rattle.grid_base.proofs.Walks.{walk_vertices, WalkBetween-sym, WalkBetween-trans, WalkBetween-superset}
use Rattle.grid_graph.specs.Weighed.{IsAllowed}
use Rattle.grid_graph.proofs.Members.{In-Contains, Contains-In, In-filter, In-from_filter}
use Rattle.label_search.specs.Sets.{IsSetOf, IsLeastWeight, IsEither, weight}
use Rattle.steiner_tables.proofs.Trees.{IsUnion, united}
use Rattle.lower_bound.specs.HalfWords.{IsSumOfHalves}
use Rattle.lower_bound.specs.Moats.{IsWithinDistance}
use Rattle.lower_bound.specs.NetBounds.{IsLeastToOther}
use Rattle.lower_bound.specs.Representatives.{IsFree, AreRepresentatives, represented, AreJoinedFreely}

-- the pieces that weigh nothing
abbrev weighs_nothing : Piece × ℕ → Bool
weighs_nothing x = x.1 == 0

abbrev free_of : List (Piece × ℕ) → List (Piece × ℕ)
free_of pieces = filter weighs_nothing pieces

free_light : (pieces : List (Piece × ℕ)) → weight (free_of pieces) ≤ 0
free_light pieces =
    let none : All (λ (x : Piece × ℕ). x.1 ≤ 0) (free_of pieces) = All-weaker (λ (x : Piece × ℕ). weighs_nothing x ≡ true) (λ x. x.1 ≤ 0) (λ x is. omega (arith, eqb-true x.1 0 is)) (free_of pieces) (filter_passes weighs_nothing pieces) in
    omega (arith, sum_by-le (λ (x : Piece × ℕ). x.1) 0 (free_of pieces) none, mul-zero (length (free_of pieces)))

free_listed : (pieces : List (Piece × ℕ)) (p : Piece) → IsFree pieces p → IsAllowed (free_of pieces) p
free_listed pieces p at = (0, In-Contains _ _ (In-filter weighs_nothing pieces (p, 0) (Contains-In _ _ at) refl))

free_within : (pieces : List (Piece × ℕ)) (x : Piece × ℕ) → Contains (free_of pieces) x → Contains pieces x
free_within pieces x at = In-Contains _ _ (In-from_filter weighs_nothing pieces x (Contains-In _ _ at)).0

-- a set with all pieces that weigh nothing
with_free : (pieces set : List (Piece × ℕ)) → IsSetOf pieces set → IsUnion pieces (free_of pieces) set
with_free pieces set is = united pieces (free_of pieces) set (free_within pieces) is

joined_over : (s : Size) (pieces set : List (Piece × ℕ)) (T U : ℕ → Type 0) (more : IsUnion pieces (free_of pieces) set) → ((v : ℕ) → T v → (u : ℕ) × U u × WalkBetween s (IsFree pieces) v u) → Joins s (IsAllowed set) U → Joins s (IsAllowed more.new) T
joined_over s pieces set T U more there joins a b at_a at_b =
    let G = IsAllowed more.new in
    let free : (u v : ℕ) → WalkBetween s (IsFree pieces) u v → WalkBetween s G u v = WalkBetween-superset s (IsFree pieces) G (λ p is. more.first p (free_listed pieces p is)) in
    let u = there a at_a in
    let v = there b at_b in
    WalkBetween-trans s G a u.0 b (free a u.0 u.2)
    (WalkBetween-trans s G u.0 v.0 b (WalkBetween-superset s (IsAllowed set) G more.second u.0 v.0 (joins u.0 v.0 u.1 v.1)) (WalkBetween-sym s G b v.0 (free b v.0 v.2)))

-- the least weight of the one is that of the other
pub least_freely : (s : Size) (pieces : List (Piece × ℕ)) (T U : ℕ → Type 0) (n : ℕ) → AreJoinedFreely s pieces T U → IsLeastWeight s pieces U n → IsLeastWeight s pieces T n
least_freely s pieces T U n are is =
    let more = with_free pieces is.set is.is_set in
    let joins = joined_over s pieces is.set T U more are.there is.joins in
    let low : (other : List (Piece × ℕ)) → IsSetOf pieces other → Joins s (IsAllowed other) T → n ≤ weight other = λ other other_is joined.
    let wider = with_free pieces other other_is in
    let over = joined_over s pieces other U T wider (λ u at. let v = are.back u at in (v.0, v.1, WalkBetween-sym s (IsFree pieces) v.0 u v.2)) joined in
    omega (arith, is.lightest wider.new wider.is_set over, wider.light, free_light pieces) in
    record {
      set = more.new;
      is_set = more.is_set;
      joins = joins;
      weighs = omega (arith, more.light, free_light pieces, is.weighs, low more.new more.is_set joins);
      lightest = low;
    }

-- what is joined stays so
pub joined_freely : (s : Size) (pieces : List (Piece × ℕ)) (T U : ℕ → Type 0) → AreJoinedFreely s pieces T U → Joins s (IsAllowed pieces) T → Joins s (IsAllowed pieces) U
joined_freely s pieces T U are joins a b at_a at_b =
    let G = IsAllowed pieces in
    let free : (u v : ℕ) → WalkBetween s (IsFree pieces) u v → WalkBetween s G u v = WalkBetween-superset s (IsFree pieces) G (λ p is. (0, is)) in
    let v = are.back a at_a in
    let w = are.back b at_b in
    WalkBetween-trans s G a v.0 b (WalkBetween-sym s G v.0 a (free v.0 a v.2))
    (WalkBetween-trans s G v.0 w.0 b (joins v.0 w.0 v.1 w.1) (free w.0 b w.2))

-- ---- those that stand for others

pub represented_freely : (s : Size) (pieces : List (Piece × ℕ)) (of : List ℕ) (tiles : List Vertex) → AreRepresentatives s pieces of → All (λ (v : Vertex). IsVertex s v.0) tiles → AreJoinedFreely s pieces (InVertices tiles) (InVertices (represented of tiles))
represented_freely s pieces of tiles are vertices = record {
  there = λ v at.
      (slice_index of v, Contains-map (λ (t : Vertex). record { 0 = slice_index of t.0 }) tiles (record { 0 = v }) at, are.leads v (All-contains (λ (t : Vertex). IsVertex s t.0) tiles (record { 0 = v }) vertices at));
  back = λ u at.
      let made = made_by_map (λ (t : Vertex). record { 0 = slice_index of t.0 }) tiles (record { 0 = u }) at in
      let v = made.0.0 in
      (v, made.1, subst (WalkBetween s (IsFree pieces) v) (ap (λ (t : Vertex). t.0) made.2) (are.leads v (All-contains (λ (t : Vertex). IsVertex s t.0) tiles made.0 vertices made.1)));
}

two_freely : (s : Size) (pieces : List (Piece × ℕ)) (a b c d : ℕ) → WalkBetween s (IsFree pieces) a c → WalkBetween s (IsFree pieces) b d → AreJoinedFreely s pieces (IsEither a b) (IsEither c d)
two_freely s pieces a b c d first second = record {
  there = λ v is. ⊎_elim
      (λ here. (c, inl refl, subst (λ u. WalkBetween s (IsFree pieces) u c) (sym here) first))
      (λ here. (d, inr refl, subst (λ u. WalkBetween s (IsFree pieces) u d) (sym here) second))
      is;
  back = λ u is. ⊎_elim
      (λ here. (a, inl refl, subst (WalkBetween s (IsFree pieces) a) (sym here) first))
      (λ here. (b, inr refl, subst (WalkBetween s (IsFree pieces) b) (sym here) second))
      is;
}

within_freely : (s : Size) (pieces : List (Piece × ℕ)) (a b c d n : ℕ) → WalkBetween s (IsFree pieces) a c → WalkBetween s (IsFree pieces) b d → IsWithinDistance s pieces c d n → IsWithinDistance s pieces a b n
within_freely s pieces a b c d n first second within set is walk =
    let more = with_free pieces set is in
    let G = IsAllowed more.new in
    let free : (u v : ℕ) → WalkBetween s (IsFree pieces) u v → WalkBetween s G u v = WalkBetween-superset s (IsFree pieces) G (λ p at. more.first p (free_listed pieces p at)) in
    let over : WalkBetween s G c d = WalkBetween-trans s G c a d (WalkBetween-sym s G a c (free a c first))
    (WalkBetween-trans s G a b d (WalkBetween-superset s (IsAllowed set) G more.second a b walk) (free b d second)) in
    omega (arith, within more.new more.is_set over, more.light, free_light pieces)

vertex_at : (s : Size) (tiles : List Vertex) (place : ℕ) (v : Vertex) → All (λ (u : Vertex). IsVertex s u.0) tiles → At tiles place v → IsVertex s v.0
vertex_at s tiles place v vertices at =
    subst (λ (u : Vertex). IsVertex s u.0) (get_or_from_slice_get tiles place v v at) (vertices place v (slice_get_within tiles place v at))

-- the vertex that one at a place stands for
stands_for : (of : List ℕ) (tiles : List Vertex) (place : ℕ) (t : Vertex) → At (represented of tiles) place t → (v : Vertex) × At tiles place v × (slice_index of v.0 ≡ t.0)
stands_for of tiles place t at =
    let f : Vertex → Vertex = λ u. record { 0 = slice_index of u.0 } in
    let v = get_or tiles place t in
    let stands : At tiles place v = slice_get-get_or tiles place t (subst (λ n. place < n) (length-map tiles f) (slice_get_within (represented of tiles) place t at)) in
    let mapped : At (represented of tiles) place (f v) = slice_get-map f tiles place ∙ ap (option_map f) stands in
    (v, stands, ap (λ (u : Vertex). u.0) (same_Some (f v) t (sym mapped ∙ at)))

pub represented_vertices : (s : Size) (pieces : List (Piece × ℕ)) (of : List ℕ) (tiles : List Vertex) → AreRepresentatives s pieces of → All (λ (v : Vertex). IsVertex s v.0) tiles → All (λ (v : Vertex). IsVertex s v.0) (represented of tiles)
represented_vertices s pieces of tiles are vertices k d low =
    let t = get_or (represented of tiles) k d in
    let from = stands_for of tiles k t (slice_get-get_or (represented of tiles) k d low) in
    let walk = are.leads from.0.0 (vertex_at s tiles k from.0 vertices from.1) in
    subst (IsVertex s) from.2 (walk_vertices s (IsFree pieces) from.0.0 (slice_index of from.0.0) walk).1

to_other_freely : (s : Size) (pieces : List (Piece × ℕ)) (of : List ℕ) (tiles : List Vertex) (place least : ℕ) → AreRepresentatives s pieces of → All (λ (v : Vertex). IsVertex s v.0) tiles → IsLeastToOther s pieces (represented of tiles) place least → IsLeastToOther s pieces tiles place least
to_other_freely s pieces of tiles place least are vertices is =
    let F = IsFree pieces in
    let here = stands_for of tiles place is.terminal is.stands in
    let near = stands_for of tiles is.other is.near is.stands_near in
    let first : WalkBetween s F here.0.0 is.terminal.0 = subst (WalkBetween s F here.0.0) here.2 (are.leads here.0.0 (vertex_at s tiles place here.0 vertices here.1)) in
    let second : WalkBetween s F near.0.0 is.near.0 = subst (WalkBetween s F near.0.0) near.2 (are.leads near.0.0 (vertex_at s tiles is.other near.0 vertices near.1)) in
    let f : Vertex → Vertex = λ u. record { 0 = slice_index of u.0 } in
    record {
      terminal = here.0;
      stands = here.1;
      other = is.other;
      near = near.0;
      differs = is.differs;
      stands_near = near.1;
      joined = least_freely s pieces (IsEither here.0.0 near.0.0) (IsEither is.terminal.0 is.near.0) least (two_freely s pieces here.0.0 near.0.0 is.terminal.0 is.near.0 first second) is.joined;
      nearest = λ i u differs at.
          within_freely s pieces here.0.0 u.0 is.terminal.0 (slice_index of u.0) least first (are.leads u.0 (vertex_at s tiles i u vertices at))
          (is.nearest i (f u) differs (slice_get-map f tiles i ∙ ap (option_map f) at));
    }

pub sum_freely : (s : Size) (pieces : List (Piece × ℕ)) (of : List ℕ) (tiles : List Vertex) (count total : ℕ) → AreRepresentatives s pieces of → All (λ (v : Vertex). IsVertex s v.0) tiles → IsSumOfHalves s pieces (represented of tiles) count total → IsSumOfHalves s pieces tiles count total
sum_freely s pieces of tiles count total are vertices sum = record {
  halves = sum.halves;
  each = sum.each;
  half = λ place h at. let is = sum.half place h at in (is.0, to_other_freely s pieces of tiles place is.0 are vertices is.1, is.2);
  sums = sum.sums;
}
