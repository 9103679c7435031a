-- The nearest goal by a search from the goals that the flat grid's search found.
use Rattle.std.proofs.Common.{◌≡◌, ◌≢◌, ℕ, ◌+◌, ◌-◌, ◌*◌, ◌^◌, ◌<◌, ◌≤◌, ◌⊎◌, ◌++◌, [], ◌∷◌, List, All, Option, Some, None, length, get_or, min, refl, sym, ◌∙◌, ap, subst, inl, inr, ⊎_elim, arith}
use Rattle.std.proofs.lemmas.Bool.{cases_eq}
use Rattle.std.proofs.lemmas.List.Elements.{All-contains, All-push, Contains-append_left, Contains-append_right, Contains-get_or}
use Rattle.std.proofs.lemmas.Option.{slice_get-get_or, get_or_from_slice_get}
use Rattle.grid_base.specs.declared.piece.Piece.{Piece}
use Rattle.grid_base.specs.declared.size.Size.{Size}
use Rattle.grid_base.specs.declared.vertex.Vertex.{Vertex}
use Rattle.grid_base.specs.Numbers.{IsVertex, layer_of}
use Rattle.grid_base.specs.Walks.{InVertices, WalkBetween}
use Rattle.grid_base.proofs.Walks.{WalkBetween-sym}
use Rattle.grid_graph.specs.Flat.{tile_of}
use Rattle.grid_graph.specs.Weighed.{IsAllowed, AreWithinLimit}
use Rattle.label_search.specs.Searches.{IsLow, known}
use Rattle.label_search.specs.Sets.{IsSetOf, RisesSlowly, weight}
use Rattle.label_search.specs.Stamped.{most, far}
use Rattle.label_search.proofs.Law.{rises_by_weight}
use Rattle.label_search.proofs.Sets.{least_found}
use Rattle.shortest_paths.specs.declared.labels.Labels.{Labels}
use Rattle.shortest_paths.specs.LabelWords.{labels_number}
use Rattle.shortest_paths.specs.Nearest.{IsGoal, NoneIsNearer, IsLeastToGoal, IsNearestDistance}
use Rattle.shortest_paths.specs.Sources.{IsFromAny}
use Rattle.shortest_paths.proofs.Backwards.{path_set}
use Rattle.shortest_paths.proofs.NearestGoals.{nearer_of, none_joined}
use Rattle.steiner_exact.specs.GoalRests.{rest_to}
use Rattle.least_weights.specs.NearestWithin.{IsNearestWithin}

-- ---- goals as they are found

abbrev nowhere : Vertex
nowhere = record { 0 = 0 }

-- goals alone among the first so many terminals, and each of these but for those whose tiles' numbers are above the limit
pub record FoundSoFar (s : Size) (flat : Labels) (limit : ℕ) (terminals : List Vertex) (here count : ℕ) (found : List Vertex) : Type 0 where
  pub goals : All (λ (v : Vertex). IsGoal terminals here v.0) found
  pub others : (i : ℕ) → i < count → (get_or terminals i (record { 0 = 0 })).0 ≢ here
      → InVertices found (get_or terminals i (record { 0 = 0 })).0 ⊎ (limit < labels_number flat (tile_of s (get_or terminals i (record { 0 = 0 })).0))

module _ (s : Size) (flat : Labels) (limit : ℕ) (terminals : List Vertex) (here i : ℕ) (found : List Vertex)
    (before : FoundSoFar s flat limit terminals here i found) (low : i < length terminals) where
  pub found_more : (new : List Vertex) → (get_or terminals i (record { 0 = 0 })).0 ≢ here
      → new ≡ found ++ get_or terminals i (record { 0 = 0 }) ∷ [] → FoundSoFar s flat limit terminals here (i + 1) new
  found_more new elsewhere is =
      let v = get_or terminals i nowhere in
      subst (FoundSoFar s flat limit terminals here (i + 1)) (sym is) (record {
        goals = All-push (λ (u : Vertex). IsGoal terminals here u.0) found v before.goals (Contains-get_or terminals i nowhere low, elsewhere);
        others = λ k below other. ⊎_elim
            (λ last. inl (Contains-append_right found (v ∷ []) (get_or terminals k nowhere) (0, omega arith, ap (λ n. get_or terminals n nowhere) (sym last))))
            (λ earlier. ⊎_elim
            (λ at. inl (Contains-append_left found (v ∷ []) (get_or terminals k nowhere) at))
            (λ far_off. inr far_off)
            (before.others k (omega (arith, below, earlier)) other))
            (cases_eq k i);
      })

  pub found_same : ((get_or terminals i (record { 0 = 0 })).0 ≢ here → limit < labels_number flat (tile_of s (get_or terminals i (record { 0 = 0 })).0))
      → FoundSoFar s flat limit terminals here (i + 1) found
  found_same none = record {
    goals = before.goals;
    others = λ k below other. ⊎_elim
        (λ last. inr (subst (λ n. limit < labels_number flat (tile_of s (get_or terminals n nowhere).0)) (sym last)
        (none (subst (λ n. (get_or terminals n nowhere).0 ≢ here) last other))))
        (λ earlier. before.others k (omega (arith, below, earlier)) other)
        (cases_eq k i);
  }

pub found_all : (s : Size) (flat : Labels) (limit : ℕ) (terminals : List Vertex) (here count : ℕ) (found : List Vertex) → length terminals ≤ count
    → FoundSoFar s flat limit terminals here count found → (v : ℕ) → IsGoal terminals here v
    → InVertices found v ⊎ (limit < labels_number flat (tile_of s v))
found_all s flat limit terminals here count found all is v goal =
    let i = goal.0.0 in
    let at = slice_get-get_or terminals i (record { 0 = v }) goal.0.1 ∙ ap (λ (x : Vertex). Some x) goal.0.2 in
    let same : (get_or terminals i nowhere).0 ≡ v = ap (λ (x : Vertex). x.0) (get_or_from_slice_get terminals i (record { 0 = v }) nowhere at) in
    subst (λ n. InVertices found n ⊎ (limit < labels_number flat (tile_of s n))) same
    (is.others i (omega (arith, all, goal.0.1)) (subst (λ n. n ≢ here) (sym same) goal.1))

-- ---- the nearest of them

-- what is still to go to the source's tile by a search of the flat grid within a limit
abbrev pub across_to : Labels → ℕ → ℕ → ℕ
across_to flat limit = known (labels_number flat) (λ _. 0) (limit + 1)

-- a bound whose parts have other names
pub bound_slow : (s t : Size) (pieces others : List (Piece × ℕ)) (l m via limit n : ℕ) (flat labels : Labels) → t ≡ s → others ≡ pieces
    → m ≡ l → labels ≡ flat → n ≡ limit + 1 → RisesSlowly t others (rest_to t m via (known (labels_number labels) (λ _. 0) n))
    → RisesSlowly s pieces (rest_to s l via (across_to flat limit))
bound_slow s t pieces others l m via limit n flat labels size listed layer same within slow =
    subst (λ (x : Size). RisesSlowly x pieces (rest_to x l via (across_to flat limit))) size
    (subst (λ (xs : List (Piece × ℕ)). RisesSlowly t xs (rest_to t l via (across_to flat limit))) listed
    (subst (λ k. RisesSlowly t others (rest_to t k via (across_to flat limit))) layer
    (subst (λ (x : Labels). RisesSlowly t others (rest_to t m via (across_to x limit))) same
    (subst (λ k. RisesSlowly t others (rest_to t m via (known (labels_number labels) (λ _. 0) k))) within slow))))

-- what a search from the goals that the flat grid's search found within a limit knows of a source
pub record AreFoundFrom (s : Size) (pieces : List (Piece × ℕ)) (goals : List Vertex) (source limit via : ℕ) (flat : Labels) (found : List Vertex)
    (num : ℕ → ℕ) : Type 0 where
  pub here : IsVertex s source
  pub slow : RisesSlowly s pieces (rest_to s (layer_of s source) via (across_to flat limit))
  pub own : labels_number flat (tile_of s source) ≡ 0
  pub small : limit ≤ most
  pub are_goals : All (λ (v : Vertex). IsGoal goals source v.0) found
  pub others : (v : ℕ) → IsGoal goals source v → InVertices found v ⊎ (limit < labels_number flat (tile_of s v))
  pub low : All (λ (v : Vertex). IsLow s pieces v.0 num source) found
  pub from : num source < far → IsFromAny s pieces found source (num source)

nothing_left : (x layers via : ℕ) → x ≡ 0 → layers ≡ 0 → min (x + layers * via) (2 ^ 61) ≡ 0
nothing_left x layers via none same = let no : layers * via ≡ 0 * via = ap (λ n. n * via) same in omega (arith, none, no)

past_limit : (x layers via limit : ℕ) → x ≡ limit + 1 → limit < 2 ^ 61 → limit + 1 ≤ min (x + layers * via) (2 ^ 61)
past_limit x layers via limit is small = omega (arith, is, small)

module _ (s : Size) (pieces : List (Piece × ℕ)) (goals : List Vertex) (source limit via : ℕ) (flat : Labels) (found : List Vertex)
    (num : ℕ → ℕ) (is : AreFoundFrom s pieces goals source limit via flat found num) where
  -- a goal whose tile wasn't found is further away than the limit
  unfound_far : (v : ℕ) → limit < labels_number flat (tile_of s v) → (set : List (Piece × ℕ)) → IsSetOf pieces set
      → WalkBetween s (IsAllowed set) source v → limit + 1 ≤ weight set
  unfound_far v none set is_set walk =
      let rest = rest_to s (layer_of s source) via (across_to flat limit) in
      let rises = rises_by_weight s pieces rest is.slow set is_set.allowed source v walk in
      let at_v : across_to flat limit (tile_of s v) ≡ limit + 1 = omega (arith, none) in
      let at_source : across_to flat limit (tile_of s source) ≡ 0 = omega (arith, is.own) in
      let there = past_limit (across_to flat limit (tile_of s v)) (layer_of s v - layer_of s source + (layer_of s source - layer_of s v)) via limit
      at_v (omega (arith, is.small)) in
      let here = nothing_left (across_to flat limit (tile_of s source)) (layer_of s source - layer_of s source + (layer_of s source - layer_of s source)) via
      at_source (omega arith) in
      omega (arith, rises, there, here)

  -- a goal whose tile was found is at least as far away as the number says
  found_low : (v : ℕ) → InVertices found v → (set : List (Piece × ℕ)) → IsSetOf pieces set
      → WalkBetween s (IsAllowed set) source v → num source ≤ weight set
  found_low v at set is_set walk =
      All-contains (λ (u : Vertex). IsLow s pieces u.0 num source) found (record { 0 = v }) is.low at set is_set
      (WalkBetween-sym s (IsAllowed set) source v walk)

  -- so no goal is nearer than both
  pub none_within : (x : ℕ) → x ≤ num source → x ≤ limit + 1 → NoneIsNearer s pieces source (IsGoal goals source) x
  none_within x low small v goal set is_set walk = ⊎_elim
      (λ at. omega (arith, low, found_low v at set is_set walk))
      (λ none. omega (arith, small, unfound_far v none set is_set walk))
      (is.others v goal)

  pub least_within : num source ≤ limit → IsLeastToGoal s pieces goals source (num source)
  least_within within =
      let from = is.from (omega (arith, within, is.small)) in
      let has = path_set s pieces from.source source from.path from.length is.here from.is_path in
      let near = none_within (num source) (omega arith) (omega (arith, within)) in
      let goal = All-contains (λ (u : Vertex). IsGoal goals source u.0) found (record { 0 = from.source }) is.are_goals from.is_source in
      record {
        goal = from.source;
        is_goal = goal;
        joined = least_found s pieces has.set source from.source (num source) has.is_set
            (WalkBetween-sym s (IsAllowed has.set) from.source source has.walk) (omega (arith, has.light, from.light))
            (λ set is_set walk. near from.source goal set is_set walk);
        nearest = near;
      }

-- the answer within a limit
pub answer_within : (s : Size) (pieces : List (Piece × ℕ)) (goals : List Vertex) (source limit via : ℕ) (flat : Labels) (found : List Vertex)
    (num : ℕ → ℕ) (o : Option ℕ) → AreFoundFrom s pieces goals source limit via flat found num
    → ((num source ≤ limit) × (o ≡ Some (num source))) ⊎ ((limit < num source) × (o ≡ None)) → IsNearestWithin s pieces goals source limit o
answer_within s pieces goals source limit via flat found num o is cases = ⊎_elim
    (λ within. subst (IsNearestWithin s pieces goals source limit) (sym within.1)
    (least_within s pieces goals source limit via flat found num is within.0))
    (λ past. subst (IsNearestWithin s pieces goals source limit) (sym past.1)
    (none_within s pieces goals source limit via flat found num is (limit + 1) (omega (arith, past.0)) (omega arith)))
    cases

-- the nearest at all, where it was found, or where the limit is above all distances
pub nearest_at_last : (s : Size) (pieces : List (Piece × ℕ)) (goals : List Vertex) (source limit : ℕ) (o : Option ℕ) → AreWithinLimit pieces
    → IsNearestWithin s pieces goals source limit o → (o ≡ None → limit ≡ most) → IsNearestDistance s pieces goals source o
nearest_at_last s pieces goals source limit (Some d) small is last = is
nearest_at_last s pieces goals source limit None small is last =
    none_joined s pieces goals source small (nearer_of s pieces source (IsGoal goals source) (IsGoal goals source) (limit + 1) far (λ v goal. goal) (omega (arith, last refl)) is)
