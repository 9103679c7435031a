-- Of each terminal half of what it costs to join it to the nearest other one.
use Rattle.std.proofs.Common.{◌≡◌, ◌≢◌, ◌≤◌, ◌/◌, ◌++◌, ℕ, zero, suc, List, [], ◌∷◌, Option, Some, None, length, get_or}
use Rattle.std.proofs.Common.{unwrap_or, sym, ◌∙◌, ap, subst, ⊎_elim, arith}
use Rattle.std.proofs.lemmas.Option.{same_Some, slice_get-get_or, slice_get_within, get_or_from_slice_get}
use Rattle.std.specs.List.{Contains}
use Rattle.grid_base.specs.declared.piece.Piece.{Piece}
use Rattle.grid_base.specs.declared.size.Size.{Size}
use Rattle.grid_base.specs.declared.vertex.Vertex.{Vertex}
use Rattle.grid_base.specs.Lists.{At, HasNoRepeats}
use Rattle.grid_base.specs.Walks.{Joins, InVertices}
use Rattle.grid_base.proofs.Lists.{At-push_cases}
use Rattle.grid_graph.specs.Weighed.{IsAllowed, NoPieceTwice}
use Rattle.label_search.proofs.Sets.{joins_ends}
use Rattle.shortest_paths.specs.Nearest.{IsGoal, IsNearestDistance}
use Rattle.lower_bound.specs.HalfWords.{IsHalf}
use Rattle.lower_bound.specs.NetBounds.{IsLeastToOther}

stands_in : (xs : List Vertex) (i : ℕ) (x : Vertex) → At xs i x → Contains xs x
stands_in xs i x at = (i, slice_get_within xs i x at, get_or_from_slice_get xs i x x at)

-- each other terminal is a goal
goal_at : (terminals : List Vertex) (place i : ℕ) (from u : Vertex) → HasNoRepeats terminals → At terminals place from
    → i ≢ place → At terminals i u → IsGoal terminals from.0 u.0
goal_at terminals place i from u distinct stands differs at = (
  stands_in terminals i u at,
  λ same. differs (distinct i place from (subst (At terminals i) (ap (λ n. record { 0 = n }) same) at) stands),
)

-- the place of another one of two or more
another : ℕ → ℕ
another zero = 1
another (suc n) = 0

another_low : (place : ℕ) → another place ≤ 1
unfolding another
another_low zero = omega arith
another_low (suc n) = omega arith

another_differs : (place : ℕ) → another place ≢ place
unfolding another
another_differs zero same = cc
another_differs (suc n) same = cc

-- the nearest of the other terminals
least_to_other : (s : Size) (pieces : List (Piece × ℕ)) (terminals : List Vertex) (place : ℕ) (from : Vertex) (o : Option ℕ)
    → NoPieceTwice pieces → Joins s (IsAllowed pieces) (InVertices terminals) → 2 ≤ length terminals → HasNoRepeats terminals
    → At terminals place from → IsNearestDistance s pieces terminals from.0 o
    → IsLeastToOther s pieces terminals place (unwrap_or o 0)
least_to_other s pieces terminals place from (Some d) once joins two distinct at is =
    let near : Vertex = record { 0 = is.goal } in
    let in_list = is.is_goal.0 in
    let stands_near : At terminals in_list.0 near =
    slice_get-get_or terminals in_list.0 near in_list.1 ∙ ap (λ (x : Vertex). Some x) in_list.2 in
    record {
      terminal = from;
      stands = at;
      other = in_list.0;
      near = near;
      differs = λ same. is.is_goal.1 (ap (λ (x : Vertex). x.0)
          (same_Some near from (sym (subst (λ i. At terminals i near) same stands_near) ∙ at)));
      stands_near = stands_near;
      joined = is.joined;
      nearest = λ i u differs at_u. is.nearest u.0 (goal_at terminals place i from u distinct at differs at_u);
    }
least_to_other s pieces terminals place from None once joins two distinct at is =
    let i = another place in
    let nowhere : Vertex = record { 0 = 0 } in
    let u = get_or terminals i nowhere in
    let at_u : At terminals i u = slice_get-get_or terminals i nowhere (omega (arith, another_low place, two)) in
    let goal = goal_at terminals place i from u distinct at (another_differs place) at_u in
    absurd (is u.0 goal pieces (record { allowed = λ x inside. inside; once = once })
    (joins_ends s (IsAllowed pieces) from.0 u.0 (joins from.0 u.0 (stands_in terminals place from at) goal.0)))

pub half_to_other : (s : Size) (pieces : List (Piece × ℕ)) (terminals : List Vertex) (place half : ℕ) (from : Vertex)
    (o : Option ℕ) → NoPieceTwice pieces → Joins s (IsAllowed pieces) (InVertices terminals) → 2 ≤ length terminals
    → HasNoRepeats terminals → At terminals place from → IsNearestDistance s pieces terminals from.0 o
    → half ≡ unwrap_or o 0 / 2 → IsHalf s pieces terminals place half
half_to_other s pieces terminals place half from o once joins two distinct at is half_is =
    (unwrap_or o 0, least_to_other s pieces terminals place from o once joins two distinct at is, half_is)

-- halves of the first terminals, and one more
pub one_more : (s : Size) (pieces : List (Piece × ℕ)) (terminals : List Vertex) (halves : List ℕ) (n h : ℕ)
    → length halves ≡ n → ((place x : ℕ) → At halves place x → IsHalf s pieces terminals place x)
    → IsHalf s pieces terminals n h → (place x : ℕ) → At (halves ++ h ∷ []) place x → IsHalf s pieces terminals place x
one_more s pieces terminals halves n h long so_far half place x at = ⊎_elim
    (λ before. so_far place x before)
    (λ last. subst (λ m. IsHalf s pieces terminals m x) (sym (last.0 ∙ long))
    (subst (IsHalf s pieces terminals n) (sym last.1) half))
    (At-push_cases halves h x place at)
