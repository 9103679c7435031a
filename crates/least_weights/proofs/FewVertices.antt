-- Least weights of joining few vertices.
use Rattle.std.proofs.Common.{◌≡◌, ℕ, ◌<◌, ◌↔◌, List, [], ◌∷◌, Some, length, refl, sym, ◌∙◌, ap, subst, inl, inr, ⊎_elim, arith}
use Rattle.std.proofs.lemmas.Option.{same_Some, slice_get-get_or}
use Rattle.grid_base.specs.declared.piece.Piece.{Piece}
use Rattle.grid_base.specs.declared.size.Size.{Size}
use Rattle.grid_base.specs.declared.vertex.Vertex.{Vertex}
use Rattle.grid_base.specs.Lists.{At}
use Rattle.grid_base.specs.Walks.{Joins, InVertices, WalkBetween}
use Rattle.grid_base.proofs.Lists.{head_or_rest}
use Rattle.grid_base.proofs.Walks.{WalkBetween-refl, walk_vertices}
use Rattle.grid_graph.specs.Weighed.{IsAllowed}
use Rattle.shortest_paths.specs.declared.labels.Labels.{Labels}
use Rattle.shortest_paths.specs.LabelWords.{source_of, distance_of, HasDistance}
use Rattle.label_search.specs.Sets.{IsLeastWeight, IsEither, IsDistance}
use Rattle.label_search.proofs.Sets.{no_pieces}
use Rattle.steiner_exact.proofs.LeastSets.{first_of, second_of, searched}

-- fewer than two terminals are joined without a piece
pub few_least : (s : Size) (pieces : List (Piece × ℕ)) (terminals : List Vertex) → length terminals < 2 → Joins s (IsAllowed pieces) (InVertices terminals) → IsLeastWeight s pieces (InVertices terminals) 0
few_least s pieces terminals few joins = record {
  set = [];
  is_set = no_pieces pieces;
  joins = λ a b at_a at_b.
      let same : a ≡ b = ap (λ (v : Vertex). v.0) (same_Some (record { 0 = a }) (record { 0 = b }) (sym (only a at_a) ∙ only b at_b)) in
      subst (WalkBetween s (IsAllowed []) a) same (WalkBetween-refl s (IsAllowed []) a (walk_vertices s (IsAllowed pieces) a a (joins a a at_a at_a)).0);
  weighs = refl;
  lightest = λ other is joined. omega arith;
}
  where
    only : (v : ℕ) → InVertices terminals v → At terminals 0 (record { 0 = v })
    only v is =
        let first : is.0 ≡ 0 = omega (arith, is.1, few) in
        subst (λ i. At terminals i (record { 0 = v })) first (slice_get-get_or terminals is.0 (record { 0 = v }) is.1 ∙ ap (λ (x : Vertex). Some x) is.2)

-- the same vertices
pub least_alike : (s : Size) (pieces : List (Piece × ℕ)) (T U : ℕ → Type 0) (n : ℕ) → ((v : ℕ) → T v ↔ U v) → IsLeastWeight s pieces U n → IsLeastWeight s pieces T n
least_alike s pieces T U n alike is = record {
  set = is.set;
  is_set = is.is_set;
  joins = λ a b at_a at_b. is.joins a b ((alike a).0 at_a) ((alike b).0 at_b);
  weighs = is.weighs;
  lightest = λ other other_is joined. is.lightest other other_is (λ a b at_a at_b. joined a b ((alike a).1 at_a) ((alike b).1 at_b));
}

-- two vertices as a list
pub pair_vertices : (a b : Vertex) (v : ℕ) → InVertices (a ∷ b ∷ []) v ↔ IsEither a.0 b.0 v
pair_vertices a b v = (
  (λ is. ⊎_elim
      (λ here. inl (ap (λ (u : Vertex). u.0) here))
      (λ rest. ⊎_elim (λ here. inr (ap (λ (u : Vertex). u.0) here)) (λ none. absurd (omega (arith, none.1))) (head_or_rest b [] (record { 0 = v }) rest))
      (head_or_rest a (b ∷ []) (record { 0 = v }) is)),
  λ is. ⊎_elim
      (λ here. (0, omega arith, ap (λ n. record { 0 = n }) (sym here)))
      (λ here. (1, omega arith, ap (λ n. record { 0 = n }) (sym here)))
      is,
)

-- the vertices of a list of two
both_of : (terminals : List Vertex) → length terminals ≡ 2 → (v : ℕ) → InVertices terminals v ↔ IsEither (first_of terminals) (second_of terminals) v
both_of [] two v = absurd (omega (arith, two))
both_of (a ∷ []) two v = absurd (omega (arith, two))
both_of (a ∷ b ∷ []) two v = pair_vertices a b v
both_of (a ∷ b ∷ c ∷ rest) two v = absurd (omega (arith, two))

-- what joins two terminals weighs at least as much as a search from the first to the second found
pub two_least : (s : Size) (pieces : List (Piece × ℕ)) (l : Labels) (terminals : List Vertex) (n : ℕ) → length terminals ≡ 2 → source_of l ≡ first_of terminals → HasDistance s pieces l (second_of terminals)
    → distance_of l (second_of terminals) ≡ Some n → IsLeastWeight s pieces (InVertices terminals) n
two_least s pieces l terminals n two first has is =
    least_alike s pieces (InVertices terminals) (IsEither (first_of terminals) (second_of terminals)) n (both_of terminals two)
    (subst (IsDistance s pieces (first_of terminals) (second_of terminals)) is (searched s pieces l terminals first has))
