-- The nearest of some tiles to one of them, pair by pair.
use Rattle.std.proofs.Common.{◌≡◌, ◌≢◌, ℕ, ◌+◌, ◌<◌, ◌≤◌, ◌↔◌, List, length, min, get_or, sym, ◌∙◌, subst, inl, inr, ⊎_elim, arith}
use Rattle.std.proofs.lemmas.Bool.{cases_eq, cases_lt}
use Rattle.std.proofs.lemmas.List.Elements.{Contains-get_or}
use Rattle.std.proofs.lemmas.Option.{same_Some, slice_get_within}
use Rattle.grid_base.specs.declared.piece.Piece.{Piece}
use Rattle.grid_base.specs.declared.size.Size.{Size}
use Rattle.grid_base.specs.declared.vertex.Vertex.{Vertex}
use Rattle.grid_base.specs.Lists.{At}
use Rattle.grid_base.specs.Walks.{Joins, InVertices}
use Rattle.grid_graph.specs.Weighed.{IsAllowed}
use Rattle.label_search.specs.Sets.{IsLeastWeight, IsEither}
use Rattle.label_search.proofs.Sets.{joins_ends}
use Rattle.lower_bound.specs.Moats.{IsWithinDistance}
use Rattle.lower_bound.specs.NetBounds.{IsLeastToOther}

-- the least weight of joining the tile at a place to another one; none of the first n is nearer
pub record IsNearestSoFar (s : Size) (pieces : List (Piece × ℕ)) (tiles : List Vertex) (place n least : ℕ) : Type 0 where
  pub terminal : Vertex
  pub stands : At tiles place terminal
  pub other : ℕ
  pub near : Vertex
  pub differs : other ≢ place
  pub stands_near : At tiles other near
  pub joined : IsLeastWeight s pieces (IsEither terminal.0 near.0) least
  pub nearest : (i : ℕ) (u : Vertex) → i < n → i ≢ place → At tiles i u → IsWithinDistance s pieces terminal.0 u.0 least

pub nearest_none : (s : Size) (pieces : List (Piece × ℕ)) (tiles : List Vertex) (place other least : ℕ) (here there : Vertex) → At tiles place here → At tiles other there → other ≢ place → IsLeastWeight s pieces (IsEither here.0 there.0) least
    → IsNearestSoFar s pieces tiles place 0 least
nearest_none s pieces tiles place other least here there at_here at_there differs is = record {
  terminal = here;
  stands = at_here;
  other = other;
  near = there;
  differs = differs;
  stands_near = at_there;
  joined = is;
  nearest = λ i u low. absurd (omega (arith, low));
}

pub nearest_past : (s : Size) (pieces : List (Piece × ℕ)) (tiles : List Vertex) (place n least : ℕ) → IsNearestSoFar s pieces tiles place n least → n ≡ place → IsNearestSoFar s pieces tiles place (n + 1) least
nearest_past s pieces tiles place n least is here = record {
  terminal = is.terminal;
  stands = is.stands;
  other = is.other;
  near = is.near;
  differs = is.differs;
  stands_near = is.stands_near;
  joined = is.joined;
  nearest = λ i u low other. is.nearest i u (omega (arith, low, other, here)) other;
}

within : (s : Size) (pieces : List (Piece × ℕ)) (a b m n : ℕ) → n ≤ m → IsLeastWeight s pieces (IsEither a b) m → IsWithinDistance s pieces a b n
within s pieces a b m n low is set is_set walk = omega (arith, low, is.lightest set is_set (joins_ends s (IsAllowed set) a b walk))

pub nearest_more : (s : Size) (pieces : List (Piece × ℕ)) (tiles : List Vertex) (place n least paid new : ℕ) (here there : Vertex) → IsNearestSoFar s pieces tiles place n least → n ≢ place → At tiles place here → At tiles n there
    → IsLeastWeight s pieces (IsEither here.0 there.0) paid → new ≡ min least paid → IsNearestSoFar s pieces tiles place (n + 1) new
nearest_more s pieces tiles place n least paid new here there is differs at_here at_there its step =
    let same : here ≡ is.terminal = same_Some here is.terminal (sym at_here ∙ is.stands) in
    let own : IsLeastWeight s pieces (IsEither is.terminal.0 there.0) paid = subst (λ (v : Vertex). IsLeastWeight s pieces (IsEither v.0 there.0) paid) same its in
    let all : (i : ℕ) (u : Vertex) → i < n + 1 → i ≢ place → At tiles i u → IsWithinDistance s pieces is.terminal.0 u.0 new = λ i u low other at. ⊎_elim
    (λ last.
    let u_is : there ≡ u = same_Some there u (sym at_there ∙ subst (λ k. At tiles k u) last at) in
    subst (λ (v : Vertex). IsWithinDistance s pieces is.terminal.0 v.0 new) u_is (within s pieces is.terminal.0 there.0 paid new (omega (arith, step)) own))
    (λ before set is_set walk. omega (arith, step, is.nearest i u (omega (arith, low, before)) other at set is_set walk))
    (cases_eq i n) in
    ⊎_elim
    (λ less.
    let now : paid ≡ new = omega (arith, step, less) in
    record {
      terminal = is.terminal;
      stands = is.stands;
      other = n;
      near = there;
      differs = differs;
      stands_near = at_there;
      joined = subst (IsLeastWeight s pieces (IsEither is.terminal.0 there.0)) now own;
      nearest = all;
    })
    (λ more.
    let now : least ≡ new = omega (arith, step, more) in
    record {
      terminal = is.terminal;
      stands = is.stands;
      other = is.other;
      near = is.near;
      differs = is.differs;
      stands_near = is.stands_near;
      joined = subst (IsLeastWeight s pieces (IsEither is.terminal.0 is.near.0)) now is.joined;
      nearest = all;
    })
    (cases_lt paid least)

pub nearest_all : (s : Size) (pieces : List (Piece × ℕ)) (tiles : List Vertex) (place n least : ℕ) → IsNearestSoFar s pieces tiles place n least → length tiles ≤ n → IsLeastToOther s pieces tiles place least
nearest_all s pieces tiles place n least is all = record {
  terminal = is.terminal;
  stands = is.stands;
  other = is.other;
  near = is.near;
  differs = is.differs;
  stands_near = is.stands_near;
  joined = is.joined;
  nearest = λ i u differs at. is.nearest i u (omega (arith, all, slice_get_within tiles i u at)) differs at;
}

pub either_turned : (a b v : ℕ) → IsEither a b v ↔ IsEither b a v
either_turned a b v = ((λ is. ⊎_elim (λ one. inr one) (λ other. inl other) is), λ is. ⊎_elim (λ one. inr one) (λ other. inl other) is)

-- of tiles that are joined each two are
pub two_joined : (s : Size) (F : Piece → Type 0) (tiles : List Vertex) (i j : ℕ) (d : Vertex) → Joins s F (InVertices tiles) → i < length tiles → j < length tiles → Joins s F (IsEither (get_or tiles i d).0 (get_or tiles j d).0)
two_joined s F tiles i j d joins low high u v at_u at_v = joins u v (listed u at_u) (listed v at_v)
  where
    listed : (w : ℕ) → IsEither (get_or tiles i d).0 (get_or tiles j d).0 w → InVertices tiles w
    listed w is = ⊎_elim
        (λ here. subst (InVertices tiles) (sym here) (Contains-get_or tiles i d low))
        (λ here. subst (InVertices tiles) (sym here) (Contains-get_or tiles j d high))
        is
