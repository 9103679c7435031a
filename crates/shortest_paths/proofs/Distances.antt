-- When the number of a vertex is its distance from the source.
use Rattle.std.proofs.Common.{◌≡◌, ℕ, ◌+◌, ◌<◌, ◌≤◌, List, [], ◌∷◌, All, Option, None, IsSome, sym, ◌∙◌, ap, subst, inl, inr, ⊎_elim, arith}
use Rattle.std.proofs.lemmas.Bool.{cases_lt}
use Rattle.grid_base.specs.declared.piece.Piece.{Piece}
use Rattle.grid_base.specs.declared.size.Size.{Size}
use Rattle.grid_base.specs.declared.vertex.Vertex.{Vertex}
use Rattle.grid_base.specs.Numbers.{IsVertex}
use Rattle.grid_base.specs.Walks.{Joins}
use Rattle.grid_base.proofs.Lists.{head_or_rest}
use Rattle.grid_base.proofs.Walks.{walk_vertices}
use Rattle.grid_graph.specs.Weighed.{IsAllowed, WeighsOnlyPieces, AreWithinLimit}
use Rattle.label_search.specs.declared.row.Row.{Row}
use Rattle.label_search.specs.Founds.{index_in}
use Rattle.label_search.specs.Paths.{IsPath}
use Rattle.label_search.specs.Rows.{size_in, number_in}
use Rattle.label_search.specs.Runs.{FallsFrom}
use Rattle.label_search.specs.Searches.{IsReached, IsLow}
use Rattle.label_search.specs.Sets.{IsSetOf, IsDistance, IsEither, weight}
use Rattle.label_search.specs.Starts.{IsStarted}
use Rattle.label_search.specs.Stamped.{most, far}
use Rattle.label_search.proofs.Finding.{found_vertex}
use Rattle.label_search.proofs.Forests.{light_part}
use Rattle.label_search.proofs.Sets.{least_found, ends_joined}
use Rattle.shortest_paths.proofs.Backwards.{path_set}
use Rattle.steiner_tables.specs.Tables.{answer_at}
use Rattle.steiner_tables.proofs.Pruned.{answer_at-some, answer_at-none}

-- what stands where there is an answer
pub answer_found : (n : ℕ) → IsSome (answer_at far n) → n ≤ most
answer_found n is = ⊎_elim (λ none. let clash : IsSome {T = ℕ} None = subst (λ (o : Option ℕ). IsSome o)
    (answer_at-none far n (omega (arith, none))) is in cc) (λ some. some) (cases_lt most n)

-- such a number is the distance
pub distance_of_least : (s : Size) (pieces : List (Piece × ℕ)) (source goal : ℕ) (num : ℕ → ℕ) → WeighsOnlyPieces s pieces
    → AreWithinLimit pieces → IsReached s pieces source num → IsLow s pieces source num goal →
    IsDistance s pieces source goal (answer_at far (num goal))
distance_of_least s pieces source goal num inside small reached least = ⊎_elim
    (λ none. subst (IsDistance s pieces source goal) (sym (answer_at-none far (num goal) (omega (arith, none))))
    (λ set is joins.
    let walk = ends_joined s (IsAllowed set) source goal joins in
    let light = light_part s pieces set source small is (walk_vertices s (IsAllowed set) source goal walk).0 in
    omega (arith, none, light.light, least light.part light.is_set (light.joins source goal walk))))
    (λ some.
    let has = reached.joined goal some in
    subst (IsDistance s pieces source goal) (sym (answer_at-some far (num goal) (omega (arith, some))))
    (least_found s pieces has.set source goal (num goal) has.is_set has.walk has.light least))
    (cases_lt most (num goal))

-- what a distance says of the sets that join its vertices
pub distance_least : (s : Size) (pieces : List (Piece × ℕ)) (a b n : ℕ) → IsDistance s pieces a b (answer_at far n)
    → n ≤ most + 1 → (set : List (Piece × ℕ)) → IsSetOf pieces set → Joins s (IsAllowed set) (IsEither a b) → n ≤ weight set
distance_least s pieces a b n is limit set is_set joins = ⊎_elim
    (λ none. absurd (subst (IsDistance s pieces a b) (answer_at-none far n (omega (arith, none))) is set is_set joins))
    (λ some. (subst (IsDistance s pieces a b) (answer_at-some far n (omega (arith, some))) is).lightest set is_set joins)
    (cases_lt most n)

-- what has a number was found, and is a vertex
pub numbered_found : (r : Row) (v : ℕ) → number_in r v < far → index_in r.found v < r.found.len
numbered_found r v numbered = ⊎_elim (λ found. found)
    (λ past. absurd (omega (arith, numbered, r.parts.beyond (index_in r.found v) past)))
    (cases_lt (index_in r.found v) r.found.len)

pub numbered_vertex : (r : Row) (v : ℕ) → number_in r v < far → IsVertex (size_in r) v
numbered_vertex r v numbered = found_vertex r.found v (numbered_found r v numbered)

-- numbers that fell from 0 at a source alone
pub fallen_reached : (s : Size) (pieces : List (Piece × ℕ)) (source : Vertex) (old new : Row) → size_in old ≡ s
    → IsVertex s source.0 → All (λ (v : Vertex). number_in old v.0 ≡ 0) (source ∷ []) → IsStarted (source ∷ []) old
    → FallsFrom s pieces old new → IsReached s pieces source.0 (number_in new)
fallen_reached s pieces source old new size vertex zero started fell =
    let only : (v : ℕ) → number_in old v < far → v ≡ source.0 = λ v numbered. ⊎_elim
    (λ is. ap (λ (x : Vertex). x.0) is)
    (λ none. absurd (omega (arith, none.1)))
    (head_or_rest source [] (record { 0 = v }) (started.members v numbered)) in
    record {
      vertex = vertex;
      start = omega (arith, zero 0 source (omega arith), fell.falls source.0);
      limit = λ v. omega (arith, new.parts.limits (index_in new.found v));
      joined = λ v numbered.
          let from = fell.from v (omega (arith, numbered)) in
          let path : IsPath s pieces source.0 v from.length from.path =
          subst (λ u. IsPath s pieces u v from.length from.path) (only from.before from.numbered) from.is_path in
          let at : IsVertex s v = subst (λ (x : Size). IsVertex x v) (fell.found.size ∙ size)
          (numbered_vertex new v (omega (arith, numbered))) in
          let has = path_set s pieces source.0 v from.path from.length at path in
          record { set = has.set; is_set = has.is_set; walk = has.walk; light = omega (arith, has.light, from.light) };
      behind = λ v numbered. ⊎_elim
          (λ same. inl (only v (omega (arith, same, numbered))))
          (λ behind. inr behind)
          (fell.behind v (omega (arith, numbered)));
    }
