-- Numbers of all vertices in one list, of which a piece lowers one.
use Rattle.std.proofs.Common.{◌≡◌, ◌≢◌, ℕ, ◌+◌, ◌<◌, ◌≤◌, true, false, List, [], Option, Some, None, ltb, length, map, get_or}
use Rattle.std.proofs.Common.{set, replicate, refl, sym, ◌∙◌, ap, subst, ⊎_elim, arith}
use Rattle.std.proofs.lemmas.Bool.{cases_lt, cases_eq}
use Rattle.std.proofs.lemmas.Bool.Decides.{nat_tests}
use Rattle.std.proofs.lemmas.List.{get_or-set_same, get_or-set_other, get_or-replicate, get_or_past, get_or_default, get_or-map}
use Rattle.std.proofs.lemmas.List.{length-replicate}
use Rattle.grid_base.specs.declared.piece.Piece.{Piece}
use Rattle.grid_base.specs.declared.size.Size.{Size}
use Rattle.grid_base.specs.Numbers.{vertices, IsVertex, Connects}
use Rattle.grid_base.specs.Walks.{WalkBetween}
use Rattle.grid_base.proofs.Pieces.{connects_back, end_vertex}
use Rattle.grid_base.proofs.Walks.{WalkBetween-refl, WalkBetween-superset, WalkBetween-trans, WalkBetween-piece}
use Rattle.grid_graph.specs.Weighed.{Weighs, IsAllowed, WeighsOnlyPieces, AreWithinLimit}
use Rattle.reference_programs.specs.LowerNumbers.{unreached, listed_number, distance_by, IsLowerNumber, IsSlack}
use Rattle.label_search.specs.Searches.{HasSet}
use Rattle.label_search.specs.Sets.{IsSetOf, IsDistance, RisesSlowly, weight}
use Rattle.label_search.proofs.Law.{rises_by_weight}
use Rattle.label_search.proofs.Sets.{extended, no_pieces, ends_joined, least_found, weight-most}

-- the source has 0, and each vertex with a number is joined to the source by a set of that weight
pub record AreReached (s : Size) (pieces : List (Piece × ℕ)) (source : ℕ) (num : ℕ → ℕ) : Type 0 where
  pub start : num source ≡ 0
  pub limit : (v : ℕ) → num v ≤ unreached
  pub joined : (v : ℕ) → num v < unreached → HasSet s pieces source v (num v)

-- the source alone has a number
pub start_reached : (s : Size) (pieces : List (Piece × ℕ)) (source : ℕ) (numbers : List ℕ) → IsVertex s source
    → numbers ≡ set (replicate (vertices s) unreached) source 0 → AreReached s pieces source (listed_number numbers)
start_reached s pieces source numbers vertex is =
    let all = replicate (vertices s) unreached in
    let num = listed_number numbers in
    let long = length-replicate (vertices s) unreached in
    let start : num source ≡ 0 = ap (λ xs. listed_number xs source) is
    ∙ get_or-set_same all source 0 unreached (omega (arith, long)) in
    let others : (v : ℕ) → v ≢ source → num v ≡ unreached =
    λ v other. ap (λ xs. listed_number xs v) is ∙ get_or-set_other all source v 0 unreached other ∙ ⊎_elim
    (λ low. get_or-replicate (vertices s) v unreached unreached low)
    (λ past. get_or_past all v unreached (omega (arith, long)))
    (cases_lt v (vertices s)) in
    record {
      start = start;
      limit = λ v. ⊎_elim (λ here. omega (arith, start, ap num here)) (λ other. omega (arith, others v other))
          (cases_eq v source);
      joined = λ v numbered. record {
        set = [];
        is_set = no_pieces pieces;
        walk = ⊎_elim
            (λ here. subst (WalkBetween s (IsAllowed []) source) (sym here) (WalkBetween-refl s (IsAllowed []) source vertex))
            (λ other. absurd (omega (arith, numbered, others v other)))
            (cases_eq v source);
        light = omega arith;
      };
    }

-- a set that joins a vertex joins its neighbour too, with a piece more
further : (s : Size) (pieces : List (Piece × ℕ)) (source from to d k : ℕ) (p : Piece) → HasSet s pieces source from d
    → Weighs pieces p k → Connects s p from to → HasSet s pieces source to (d + k)
further s pieces source from to d k p has weighs connects =
    let more = extended pieces has.set p k has.is_set weighs in
    record {
      set = more.new;
      is_set = more.is_set;
      walk = WalkBetween-trans s (IsAllowed more.new) source from to
          (WalkBetween-superset s (IsAllowed has.set) (IsAllowed more.new) more.kept source from has.walk)
          (WalkBetween-piece s (IsAllowed more.new) p from to more.has connects);
      light = omega (arith, more.light, has.light);
    }

-- a vertex that can be lowered is one
pub lower_vertex : (s : Size) (pieces : List (Piece × ℕ)) (num : ℕ → ℕ) (to number : ℕ) → IsLowerNumber s pieces num to number
    → IsVertex s to
lower_vertex s pieces num to number lower = end_vertex s lower.piece lower.from to lower.connects

-- what is reached stays so when a vertex gets a lower number
pub lower_reached : (s : Size) (pieces : List (Piece × ℕ)) (source : ℕ) (numbers : List ℕ) (to number : ℕ)
    → length numbers ≡ vertices s → AreReached s pieces source (listed_number numbers) →
    IsLowerNumber s pieces (listed_number numbers) to number
    → AreReached s pieces source (listed_number (set numbers to number))
lower_reached s pieces source numbers to number long reached lower =
    let num = listed_number numbers in
    let new = listed_number (set numbers to number) in
    let there : new to ≡ number = get_or-set_same numbers to number unreached
    (omega (arith, long, lower_vertex s pieces num to number lower)) in
    let others : (v : ℕ) → v ≢ to → new v ≡ num v = λ v other. get_or-set_other numbers to v number unreached other in
    let has : HasSet s pieces source to number =
    subst (HasSet s pieces source to) (sym lower.is)
    (further s pieces source lower.from to (num lower.from) lower.weight lower.piece
    (reached.joined lower.from (omega (arith, lower.is, lower.less, reached.limit to))) lower.weighs lower.connects) in
    record {
      start = ⊎_elim (λ here. omega (arith, reached.start, lower.less, ap num here))
          (λ other. others source other ∙ reached.start) (cases_eq source to);
      limit = λ v. ⊎_elim
          (λ here. omega (arith, lower.less, reached.limit to, there, ap new here))
          (λ other. omega (arith, others v other, reached.limit v))
          (cases_eq v to);
      joined = λ v numbered. ⊎_elim
          (λ here. subst (λ w. HasSet s pieces source w (new w)) (sym here) (subst (HasSet s pieces source to) (sym there) has))
          (λ other. subst (HasSet s pieces source v) (sym (others v other))
          (reached.joined v (omega (arith, numbered, others v other))))
          (cases_eq v to);
    }

-- an end of a piece that gets a lower number from the other end
pub lower_end : (s : Size) (p : Piece) (weight : ℕ) (numbers : List ℕ) (a b : ℕ) → Connects s p a b
    → length numbers ≡ vertices s → get_or numbers a 0 + weight < get_or numbers b 0 →
    (pieces : List (Piece × ℕ)) → Weighs pieces p weight
    → IsLowerNumber s pieces (listed_number numbers) b (get_or numbers a 0 + weight)
lower_end s p weight numbers a b connects long less pieces weighs =
    let at_a : get_or numbers a 0 ≡ listed_number numbers a =
    get_or_default numbers a 0 unreached (omega (arith, long, end_vertex s p b a (connects_back s p a b connects))) in
    let at_b : get_or numbers b 0 ≡ listed_number numbers b =
    get_or_default numbers b 0 unreached (omega (arith, long, end_vertex s p a b connects)) in
    record {
      from = a;
      piece = p;
      weight = weight;
      weighs = weighs;
      connects = connects;
      is = ap (λ n. n + weight) at_a;
      less = omega (arith, less, at_b);
    }

-- one piece more that lowers no number
pub slack_more : (s : Size) (pieces : List (Piece × ℕ)) (num : ℕ → ℕ) (i : ℕ) (e : Piece × ℕ) → i < length pieces
    → ((k : ℕ) (d : Piece × ℕ) → k < i → IsSlack s num (get_or pieces k d).0 (get_or pieces k d).1) →
    IsSlack s num (get_or pieces i e).0 (get_or pieces i e).1 → (k : ℕ) (d : Piece × ℕ) → k < i + 1
    → IsSlack s num (get_or pieces k d).0 (get_or pieces k d).1
slack_more s pieces num i e within before here k d low = ⊎_elim
    (λ last. subst (λ (j : ℕ). IsSlack s num (get_or pieces j d).0 (get_or pieces j d).1) (sym last)
    (subst (λ (x : Piece × ℕ). IsSlack s num x.0 x.1) (get_or_default pieces i e d within) here))
    (λ other. before k d (omega arith))
    (cases_eq k i)

-- where no piece of the list lowers a number, all rise slowly
pub slack_rises : (s : Size) (pieces : List (Piece × ℕ)) (num : ℕ → ℕ)
    → ((k : ℕ) (d : Piece × ℕ) → k < length pieces → IsSlack s num (get_or pieces k d).0 (get_or pieces k d).1)
    → RisesSlowly s pieces num
slack_rises s pieces num slack p k a b weighs connects =
    let here : IsSlack s num p k = subst (λ (x : Piece × ℕ). IsSlack s num x.0 x.1) weighs.2 (slack weighs.0 (p, k) weighs.1) in
    ⊎_elim
    (λ goes. omega (arith, here.0, ap num goes.1, ap num goes.2))
    (λ back. omega (arith, here.1, ap num back.1, ap num back.2))
    connects

distance_by-some : (n : ℕ) → n < unreached → distance_by n ≡ Some n
distance_by-some n small = let test : ltb n unreached ≡ true = grind (arith, nat_tests) in rw test refl

distance_by-none : (n : ℕ) → unreached ≤ n → distance_by n ≡ None
distance_by-none n great = let test : ltb n unreached ≡ false = grind (arith, nat_tests) in rw test refl

-- numbers that were reached and rise slowly are distances
pub slow_distance : (s : Size) (pieces : List (Piece × ℕ)) (source v : ℕ) (num : ℕ → ℕ) → WeighsOnlyPieces s pieces
    → AreWithinLimit pieces → AreReached s pieces source num → RisesSlowly s pieces num
    → IsDistance s pieces source v (distance_by (num v))
slow_distance s pieces source v num inside small reached slow =
    let least : (set : List (Piece × ℕ)) → IsSetOf pieces set → WalkBetween s (IsAllowed set) source v → num v ≤ weight set =
    λ set is walk. omega (arith, reached.start, rises_by_weight s pieces num slow set is.allowed source v walk) in
    ⊎_elim
    (λ numbered.
    let has = reached.joined v numbered in
    subst (IsDistance s pieces source v) (sym (distance_by-some (num v) numbered))
    (least_found s pieces has.set source v (num v) has.is_set has.walk has.light least))
    (λ none. subst (IsDistance s pieces source v) (sym (distance_by-none (num v) none))
    (λ set is joins. omega (
      arith,
      none,
      least set is (ends_joined s (IsAllowed set) source v joins),
      weight-most s pieces set inside small is,
    )))
    (cases_lt (num v) unreached)

-- the distance of a vertex in the list
pub distance_in : (numbers : List ℕ) (distances : List (Option ℕ)) (v : ℕ) → v < length numbers
    → distances ≡ map distance_by numbers → get_or distances v None ≡ distance_by (listed_number numbers v)
distance_in numbers distances v within is = ap (λ (xs : List (Option ℕ)). get_or xs v None) is
    ∙ get_or-map distance_by numbers v unreached None within
