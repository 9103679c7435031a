-- Halves, one terminal after the other.
use Rattle.std.proofs.Common.{◌≡◌, ◌≢◌, ℕ, zero, suc, ◌+◌, ◌≤◌, ◌⊎◌, List, [], ◌∷◌, ◌++◌, Option, Some, None, length, min, get_or, unwrap_or, refl, sym, ◌∙◌, ap, subst, inl, inr, ⊎_elim, arith}
use Rattle.std.specs.List.{Contains}
use Rattle.std.proofs.lemmas.List.Sums.{sum_by_push}
use Rattle.std.proofs.lemmas.Option.{same_Some, slice_get-get_or, slice_get_within, get_or_from_slice_get}
use Rattle.grid_base.specs.declared.piece.Piece.{Piece}
use Rattle.grid_base.specs.declared.size.Size.{Size}
use Rattle.grid_base.specs.declared.vertex.Vertex.{Vertex}
use Rattle.grid_base.specs.Lists.{At}
use Rattle.grid_base.specs.Numbers.{IsVertex}
use Rattle.grid_base.specs.Walks.{Joins, InVertices}
use Rattle.grid_base.proofs.Walks.{WalkBetween-refl}
use Rattle.grid_graph.specs.Weighed.{IsAllowed, NoPieceTwice}
use Rattle.shortest_paths.specs.Nearest.{IsGoal, IsNearestDistance}
use Rattle.label_search.proofs.Sets.{no_pieces, joins_ends}
use Rattle.lower_bound.specs.NetBounds.{IsLeastToOther}
use Rattle.lower_bound.specs.HalfWords.{all_ones, HasTwin, IsHalf, IsSumOfHalves}

at_pushed : (xs : List ℕ) (x i y : ℕ) → At (xs ++ x ∷ []) i y → ((i ≡ length xs) × (y ≡ x)) ⊎ At xs i y
at_pushed [] x zero y at = inl (refl, sym (same_Some x y at))
at_pushed [] x (suc i) y at = cc
at_pushed (z ∷ xs) x zero y at = inr at
at_pushed (z ∷ xs) x (suc i) y at = ⊎_elim (λ last. inl (ap suc last.0, last.1)) (λ rest. inr rest) (at_pushed xs x i y at)

pub no_halves : (s : Size) (pieces : List (Piece × ℕ)) (terminals : List Vertex) → IsSumOfHalves s pieces terminals 0 0
no_halves s pieces terminals = record { halves = []; each = refl; half = λ place h at. cc; sums = refl }

pub one_half_more : (s : Size) (pieces : List (Piece × ℕ)) (terminals : List Vertex) (n total h new : ℕ) → IsSumOfHalves s pieces terminals n total → IsHalf s pieces terminals n h → new ≡ min (total + h) all_ones → IsSumOfHalves s pieces terminals (n + 1) new
one_half_more s pieces terminals n total h new so_far half is = record {
  halves = so_far.halves ++ h ∷ [];
  each = length-push so_far.halves h ∙ ap (λ m. m + 1) so_far.each;
  half = λ place y at. ⊎_elim
      (λ last. subst (λ m. IsHalf s pieces terminals m y) (sym (last.0 ∙ so_far.each)) (subst (IsHalf s pieces terminals n) (sym last.1) half))
      (λ before. so_far.half place y before)
      (at_pushed so_far.halves h place y at);
  sums = omega (arith, is, so_far.sums, sum_by_push (λ (r : ℕ). r) so_far.halves h);
}
  where
    length-push : (xs : List ℕ) (x : ℕ) → length (xs ++ x ∷ []) ≡ length xs + 1
    length-push [] x = omega arith
    length-push (y ∷ xs) x = omega (arith, length-push xs x)

stands_in : (xs : List Vertex) (i : ℕ) (x : Vertex) → At xs i x → Contains xs x
stands_in xs i x at = (i, slice_get_within xs i x at, get_or_from_slice_get xs i x x at)

-- a terminal at the vertex of another one is joined to it by nothing
pub twin_least : (s : Size) (pieces : List (Piece × ℕ)) (terminals : List Vertex) (place : ℕ) (twin : HasTwin terminals place) → IsVertex s twin.vertex.0 → IsLeastToOther s pieces terminals place 0
twin_least s pieces terminals place twin vertex =
    let v = twin.vertex.0 in
    record {
      terminal = twin.vertex;
      stands = twin.stands;
      other = twin.other;
      near = twin.vertex;
      differs = twin.differs;
      stands_near = twin.stands_too;
      joined = record {
        set = [];
        is_set = no_pieces pieces;
        joins = joins_ends s (IsAllowed []) v v (WalkBetween-refl s (IsAllowed []) v vertex);
        weighs = refl;
        lightest = λ other is_set joins. omega arith;
      };
      nearest = λ i u differs at set is_set walk. omega arith;
    }

-- the terminal at a place without a twin, and each other one
record IsAlone (terminals : List Vertex) (place : ℕ) (from : Vertex) : Type 0 where
  stands : At terminals place from
  alone : ¬ HasTwin terminals place

goal_at : (terminals : List Vertex) (place : ℕ) (from : Vertex) → IsAlone terminals place from → (i : ℕ) (u : Vertex) → i ≢ place → At terminals i u → IsGoal terminals from.0 u.0
goal_at terminals place from is i u differs at = (
  stands_in terminals i u at,
  λ same. is.alone (record {
    vertex = from;
    stands = is.stands;
    other = i;
    differs = differs;
    stands_too = subst (At terminals i) (ap (λ n. record { 0 = n }) same) at;
  }),
)

-- the place of another one of two or more
another : ℕ → ℕ
another zero = 1
another (suc n) = 0

another_low : (place : ℕ) → another place ≤ 1
unfolding another
another_low zero = omega arith
another_low (suc n) = omega arith

another_differs : (place : ℕ) → another place ≢ place
unfolding another
another_differs zero same = cc
another_differs (suc n) same = cc

-- the nearest of the other terminals
pub least_to_other : (s : Size) (pieces : List (Piece × ℕ)) (terminals : List Vertex) (place : ℕ) (from : Vertex) (o : Option ℕ) → NoPieceTwice pieces → Joins s (IsAllowed pieces) (InVertices terminals) → 2 ≤ length terminals
    → At terminals place from → ¬ HasTwin terminals place → IsNearestDistance s pieces terminals from.0 o → IsLeastToOther s pieces terminals place (unwrap_or o 0)
least_to_other s pieces terminals place from (Some d) once joins two at alone is =
    let near : Vertex = record { 0 = is.goal } in
    let in_list = is.is_goal.0 in
    let stands_near : At terminals in_list.0 near = slice_get-get_or terminals in_list.0 near in_list.1 ∙ ap (λ (x : Vertex). Some x) in_list.2 in
    record {
      terminal = from;
      stands = at;
      other = in_list.0;
      near = near;
      differs = λ same. is.is_goal.1 (ap (λ (x : Vertex). x.0) (same_Some near from (sym (subst (λ i. At terminals i near) same stands_near) ∙ at)));
      stands_near = stands_near;
      joined = is.joined;
      nearest = λ i u differs at_u. is.nearest u.0 (goal_at terminals place from (record { stands = at; alone = alone }) i u differs at_u);
    }
least_to_other s pieces terminals place from None once joins two at alone is =
    let i = another place in
    let nowhere : Vertex = record { 0 = 0 } in
    let u = get_or terminals i nowhere in
    let at_u : At terminals i u = slice_get-get_or terminals i nowhere (omega (arith, another_low place, two)) in
    let goal = goal_at terminals place from (record { stands = at; alone = alone }) i u (another_differs place) at_u in
    absurd (is u.0 goal pieces (record { allowed = λ x inside. inside; once = once })
    (joins_ends s (IsAllowed pieces) from.0 u.0 (joins from.0 u.0 (stands_in terminals place from at) goal.0)))
