-- A tree that takes in a way back to it.
use Rattle.std.proofs.Common.{◌≡◌, ◌≢◌, ℕ, ◌+◌, ◌<◌, ◌≤◌, ◌⊎◌, List, [], ◌∷◌, ◌++◌, length, reverse, refl, sym, ◌∙◌, ap, subst, inl, inr, ⊎_elim, arith}
use Rattle.std.proofs.lemmas.Bool.{cases_eq, cases_lt}
use Rattle.std.proofs.lemmas.List.{reverse-append}
use Rattle.std.proofs.lemmas.List.Elements.{Contains-push, Contains-push_cases, Contains-append_left}
use Rattle.grid_base.specs.declared.piece.Piece.{Piece}
use Rattle.grid_base.specs.declared.size.Size.{Size}
use Rattle.grid_base.specs.declared.vertex.Vertex.{Vertex}
use Rattle.grid_base.specs.Numbers.{IsVertex}
use Rattle.grid_base.specs.Walks.{WalkBetween, InPieces, InVertices}
use Rattle.grid_base.proofs.Walks.{WalkBetween-refl, WalkBetween-superset, WalkBetween-trans, WalkBetween-sym, WalkBetween-piece}
use Rattle.grid_graph.specs.Weighed.{Weighs, IsAllowed}
use Rattle.shortest_paths.specs.declared.labels.Labels.{Labels}
use Rattle.steiner_span.specs.declared.step_back.StepBack.{StepBack}
use Rattle.steiner_span.specs.Growths.{AfterOffer, AreKeys, AreBehind, AreLight, IsGrowing, IsTaken, FallsTo, IsWayBack, IsGrown}
use Rattle.shortest_paths.specs.LabelWords.{labels_number}
use Rattle.shortest_paths.specs.LedSearches.{IsOpen}
use Rattle.label_search.specs.Sets.{IsSetOf, RisesSlowly, weight}
use Rattle.shortest_paths.specs.Spanning.{Link}
use Rattle.steiner_span.specs.Exchanges.{IsExchanged}
use Rattle.steiner_span.specs.SpanningLinks.{AreJoinedWithin, AreSpanningLinks}
use Rattle.label_search.specs.Stamped.{far}
use Rattle.label_search.proofs.LeastNumbers.{least_past}
use Rattle.steiner_span.proofs.Exchange.{OrAlso, exchanged, exchanged_at_start, exchanged_more}
use Rattle.steiner_span.proofs.Growing.{falls_itself, falls_to, still_behind}
use Rattle.label_search.proofs.Sets.{extended, no_pieces}

-- no allowed set that joins the tree with a terminal outside it weighs less than the number of the one taken out
pub nearest : (s : Size) (pieces : List (Piece × ℕ)) (T : ℕ → Type 0) (rest : ℕ → ℕ) (r : Labels) (at : ℕ) → IsTaken s pieces T rest r at → RisesSlowly s pieces rest → ((v : ℕ) → T v → 0 < labels_number r v → rest v ≡ 0) →
    (a b : ℕ) → labels_number r a ≡ 0 → T b → 0 < labels_number r b → (set : List (Piece × ℕ)) → IsSetOf pieces set → WalkBetween s (IsAllowed set) a b → labels_number r at ≤ weight set
nearest s pieces T rest r at taken slow near a b zero_a terminal above set is walk =
    let x = labels_number r at in
    let num = labels_number r in
    let far_b : x ≤ num b + rest b = ⊎_elim
    (λ here. omega (arith, ap num here))
    (λ other. ⊎_elim
    (λ numbered. taken.least b (taken.pending b other terminal above numbered))
    (λ none. omega (arith, none, taken.numbered))
    (cases_lt (num b) far))
    (cases_eq b at) in
    let low = least_past s pieces num rest x (λ v. IsOpen r v ⊎ (v ≡ at)) a b x slow (λ v still p k u weighs connects. inl (taken.relaxed v (λ here. still (inr here)) (λ waits. still (inl waits)) p k u weighs connects))
    (λ v waiting. ⊎_elim (λ waits. taken.least v waits) (λ here. omega (arith, ap num here)) waiting) (omega arith) zero_a far_b set is walk in
    omega (arith, low, near b terminal above)

-- one piece more
light_more : (pieces : List (Piece × ℕ)) (grown : List Piece) (limit k : ℕ) (p : Piece) → AreLight pieces grown limit → Weighs pieces p k → AreLight pieces (grown ++ p ∷ []) (limit + k)
light_more pieces grown limit k p light weighs =
    let more = extended pieces light.set p k light.is_set weighs in
    record {
      set = more.new;
      is_set = more.is_set;
      listed = λ q at. ⊎_elim (λ before. more.kept q (light.listed q before)) (λ here. subst (IsAllowed more.new) here more.has) (Contains-push_cases grown p q at);
      light = omega (arith, more.light, light.light);
    }

pub lighter : (pieces : List (Piece × ℕ)) (grown : List Piece) (low high : ℕ) → AreLight pieces grown low → low ≤ high → AreLight pieces grown high
lighter pieces grown low high light less = record { set = light.set; is_set = light.is_set; listed = light.listed; light = omega (arith, light.light, less) }

-- the tree while it takes in a way: `num` are the numbers before, `new` those now, and the way still leads from `at` to
-- a vertex of number 0
pub record IsOnWay (s : Size) (pieces : List (Piece × ℕ)) (terminals : List Vertex) (num new : ℕ → ℕ) (at : ℕ) (way : List StepBack) (grown : List Piece) : Type 0 where
  pub total : ℕ
  pub here : ℕ
  pub reached : new here ≡ 0
  pub leads : IsWayBack s pieces num at (reverse way) here
  pub joined : (a b : ℕ) → new a ≡ 0 → new b ≡ 0 → WalkBetween s (InPieces grown) a b
  pub light : AreLight pieces grown (total + num here)
  pub exchanged : (links : List Link) → AreSpanningLinks s pieces terminals links → IsExchanged (InVertices terminals) links (λ u. num u ≡ 0) total

pub way_begins : (s : Size) (pieces : List (Piece × ℕ)) (terminals : List Vertex) (num : ℕ → ℕ) (at here : ℕ) (way : List StepBack) (grown : List Piece) → IsGrown s pieces terminals num grown → num here ≡ 0 → IsWayBack s pieces num at (reverse way) here →
    IsOnWay s pieces terminals num num at way grown
way_begins s pieces terminals num at here way grown is reached leads = record {
  total = is.total;
  here = here;
  reached = reached;
  leads = leads;
  joined = is.joined;
  light = lighter pieces grown is.total (is.total + num here) is.light (omega arith);
  exchanged = is.exchanged;
}

-- where the last step of a way stands
latest : (s : Size) (pieces : List (Piece × ℕ)) (num : ℕ → ℕ) (at here : ℕ) (way : List StepBack) (x : StepBack) → IsWayBack s pieces num at (reverse (way ++ x ∷ [])) here → IsWayBack s pieces num at (x ∷ reverse way) here
latest s pieces num at here way x leads = subst (λ (xs : List StepBack). IsWayBack s pieces num at xs here) (reverse-append way (x ∷ [])) leads

-- the tree takes in one step of the way
pub way_goes_on : (s : Size) (pieces : List (Piece × ℕ)) (terminals : List Vertex) (num : ℕ → ℕ) (old new : Labels) (at : ℕ) (way : List StepBack) (x : StepBack) (grown : List Piece) → IsOnWay s pieces terminals num (labels_number old) at (way ++ x ∷ []) grown →
    AfterOffer old new x.from.vertex.0 0 → labels_number new x.from.vertex.0 ≤ 0 → IsOnWay s pieces terminals num (labels_number new) at way (grown ++ x.by ∷ [])
way_goes_on s pieces terminals num old new at way x grown on taken low =
    let leads = latest s pieces num at on.here way x on.leads in
    let back = leads.1 in
    let v = x.from.vertex.0 in
    let F = InPieces (grown ++ x.by ∷ []) in
    let to_here : (a : ℕ) → labels_number new a ≡ 0 → WalkBetween s F a on.here = λ a is. ⊎_elim
    (λ same. WalkBetween-superset s (InPieces grown) F (λ p at_p. Contains-append_left grown (x.by ∷ []) p at_p) a on.here (on.joined a on.here (sym same ∙ is) on.reached))
    (λ seeded. subst (λ u. WalkBetween s F u on.here) (sym seeded.0) (WalkBetween-piece s F x.by v on.here (Contains-push grown x.by) back.step.connects))
    (taken.changed a) in
    record {
      total = on.total;
      here = v;
      reached = omega (arith, low);
      leads = leads.2;
      joined = λ a b is_a is_b. WalkBetween-trans s F a on.here b (to_here a is_a) (WalkBetween-sym s F b on.here (to_here b is_b));
      light = lighter pieces (grown ++ x.by ∷ []) (on.total + num on.here + back.weight) (on.total + num v) (light_more pieces grown (on.total + num on.here) back.weight x.by on.light back.step.weighs) (omega (arith, back.less));
      exchanged = on.exchanged;
    }

decided : (num : ℕ → ℕ) (u : ℕ) → (num u ≡ 0) ⊎ (¬ (num u ≡ 0))
decided num u = ⊎_elim (λ is. inl is) (λ other. inr other) (cases_eq (num u) 0)

-- a link between the tree and a terminal outside it is no shorter than the number of the one taken out
link_far : (s : Size) (pieces : List (Piece × ℕ)) (near one other d : ℕ) → AreJoinedWithin s pieces one other d → ((set : List (Piece × ℕ)) → IsSetOf pieces set → WalkBetween s (IsAllowed set) one other → near ≤ weight set) → near ≤ d
link_far s pieces near one other d is low = omega (arith, is.light, low is.set is.is_set is.walk)

-- at the end of the way the tree has the terminal
pub way_ends : (s : Size) (pieces : List (Piece × ℕ)) (terminals : List Vertex) (rest : ℕ → ℕ) (old : Labels) (new : ℕ → ℕ) (at : ℕ) (grown : List Piece) → IsTaken s pieces (InVertices terminals) rest old at → RisesSlowly s pieces rest →
    ((v : ℕ) → InVertices terminals v → 0 < labels_number old v → rest v ≡ 0) → InVertices terminals at → 0 < labels_number old at → ((v : ℕ) → new v ≤ labels_number old v) →
    IsOnWay s pieces terminals (labels_number old) new at [] grown → IsGrown s pieces terminals new grown
way_ends s pieces terminals rest old new at grown taken slow near terminal above falls on =
    let num = labels_number old in
    let home : on.here ≡ at = on.leads in
    let low = nearest s pieces (InVertices terminals) rest old at taken slow near in
    let outside : (v : ℕ) → ¬ (num v ≡ 0) → 0 < num v = λ v other. ⊎_elim (λ some. some) (λ none. absurd (other (omega (arith, none)))) (cases_lt 0 (num v)) in
    record {
      total = on.total + num at;
      joined = on.joined;
      light = subst (λ v. AreLight pieces grown (on.total + num v)) home on.light;
      exchanged = λ links spans.
          exchanged_more (InVertices terminals) links (OrAlso (λ u. num u ≡ 0) at) (λ u. new u ≡ 0) (on.total + num at)
          (λ v either. ⊎_elim (λ zero_v. omega (arith, falls v, zero_v)) (λ here. ap new (here ∙ sym home) ∙ on.reached) either)
          (exchanged (InVertices terminals) links (λ u. num u ≡ 0) on.total (decided num) (on.exchanged links spans) at (num at) terminal (λ zero_at. omega (arith, zero_at, above))
          (λ link listed sides.
          let ends = spans.ends link listed in
          let joined = spans.joined link listed in
          ⊎_elim
          (λ inner. link_far s pieces (num at) link.one link.other link.distance joined (λ set is walk. low link.one link.other inner.0 ends.1 (outside link.other inner.1) set is walk))
          (λ inner. link_far s pieces (num at) link.one link.other link.distance joined (λ set is walk. low link.other link.one inner.0 ends.0 (outside link.one inner.1) set is (WalkBetween-sym s (IsAllowed set) link.one link.other walk)))
          sides));
    }

-- numbers of a row after vertices got 0
pub record IsSeeding (s : Size) (pieces : List (Piece × ℕ)) (rest : ℕ → ℕ) (old new : Labels) : Type 0 where
  pub keys : AreKeys rest new
  pub behind : AreBehind s pieces (labels_number new)
  pub fell : FallsTo old new
  pub changed : (v : ℕ) → (labels_number new v ≡ labels_number old v) ⊎ ((labels_number new v ≡ 0) × IsOpen new v)
  pub kept : (v : ℕ) → IsOpen old v → IsOpen new v

pub seeding_on : (s : Size) (pieces : List (Piece × ℕ)) (rest : ℕ → ℕ) (old mid new : Labels) (v : ℕ) → IsSeeding s pieces rest old mid → AreKeys rest new → AfterOffer mid new v 0 → IsSeeding s pieces rest old new
seeding_on s pieces rest old mid new v before keys taken = record {
  keys = keys;
  behind = λ u numbered. ⊎_elim
      (λ same. ⊎_elim (λ none. inl (same ∙ none)) (λ way. inr (still_behind s pieces (labels_number mid) (labels_number new) u taken.falls same way)) (before.behind u (omega (arith, same, numbered))))
      (λ here. inl here.1)
      (taken.changed u);
  fell = falls_to old mid new before.fell (record { go_on = taken.go_on; falls = taken.falls; less = taken.less });
  changed = λ u. ⊎_elim
      (λ same. ⊎_elim (λ still. inl (same ∙ still)) (λ seeded. inr (same ∙ seeded.0, taken.kept u seeded.1)) (before.changed u))
      (λ here. inr (here.1, here.2))
      (taken.changed u);
  kept = λ u waits. taken.kept u (before.kept u waits);
}

-- with the way back to it a vertex that was taken out waits again
pub seeded_growing : (s : Size) (pieces : List (Piece × ℕ)) (T : ℕ → Type 0) (rest : ℕ → ℕ) (old new : Labels) (at : ℕ) → IsTaken s pieces T rest old at → 0 < labels_number old at → IsSeeding s pieces rest old new → labels_number new at ≡ 0 → IsGrowing s pieces T rest new
seeded_growing s pieces T rest old new at taken above seeding reached =
    let other_than : (v : ℕ) → labels_number new v ≡ labels_number old v → v ≢ at = λ v same here. omega (arith, same, above, reached, ap (labels_number new) here, ap (labels_number old) here) in
    record {
      keys = seeding.keys;
      behind = seeding.behind;
      relaxed = λ v still. ⊎_elim
          (λ same p k u weighs connects. omega (arith, same, seeding.fell.falls u, taken.relaxed v (other_than v same) (λ waits. still (seeding.kept v waits)) p k u weighs connects))
          (λ seeded. absurd (still seeded.1))
          (seeding.changed v);
      pending = λ v terminal some numbered. ⊎_elim
          (λ same. seeding.kept v (taken.pending v (other_than v same) terminal (omega (arith, same, some)) (omega (arith, same, numbered))))
          (λ seeded. seeded.1)
          (seeding.changed v);
    }

pub seeding_begins : (s : Size) (pieces : List (Piece × ℕ)) (T : ℕ → Type 0) (rest : ℕ → ℕ) (r : Labels) (at : ℕ) → IsTaken s pieces T rest r at → IsSeeding s pieces rest r r
seeding_begins s pieces T rest r at taken = record { keys = taken.keys; behind = taken.behind; fell = falls_itself r; changed = λ v. inl refl; kept = λ v waits. waits }

pub no_elements : {X : Type 0} (xs : List X) → ¬ (0 < length xs) → xs ≡ []
no_elements [] none = refl
no_elements (x ∷ xs) none = absurd (none (omega arith))

-- the same vertices are in the tree
pub still_grown : (s : Size) (pieces : List (Piece × ℕ)) (terminals : List Vertex) (num new : ℕ → ℕ) (grown : List Piece) → ((v : ℕ) → new v ≤ num v) → ((v : ℕ) → new v ≡ 0 → num v ≡ 0) → IsGrown s pieces terminals num grown → IsGrown s pieces terminals new grown
still_grown s pieces terminals num new grown falls zeros is = record {
  total = is.total;
  joined = λ a b is_a is_b. is.joined a b (zeros a is_a) (zeros b is_b);
  light = is.light;
  exchanged = λ links spans. exchanged_more (InVertices terminals) links (λ u. num u ≡ 0) (λ u. new u ≡ 0) is.total (λ v zero_v. omega (arith, falls v, zero_v)) (is.exchanged links spans);
}

-- where the first terminal alone has a number
pub start_growing : (s : Size) (pieces : List (Piece × ℕ)) (T : ℕ → Type 0) (rest : ℕ → ℕ) (old new : Labels) (at : ℕ) → ((v : ℕ) → labels_number old v ≡ far) → AreKeys rest new → AfterOffer old new at 0 → IsGrowing s pieces T rest new
start_growing s pieces T rest old new at none keys taken = record {
  keys = keys;
  behind = λ v numbered. ⊎_elim (λ same. absurd (omega (arith, same, none v, numbered))) (λ here. inl here.1) (taken.changed v);
  relaxed = λ v still p k u weighs connects. ⊎_elim (λ same. omega (arith, same, none v, none u, taken.falls u)) (λ here. absurd (still here.2)) (taken.changed v);
  pending = λ v terminal some numbered. ⊎_elim (λ same. absurd (omega (arith, same, none v, numbered))) (λ here. here.2) (taken.changed v);
}

pub start_grown : (s : Size) (pieces : List (Piece × ℕ)) (terminals : List Vertex) (old new : Labels) (at : ℕ) → IsVertex s at → InVertices terminals at → ((v : ℕ) → labels_number old v ≡ far) → AfterOffer old new at 0 → labels_number new at ≤ 0 →
    IsGrown s pieces terminals (labels_number new) []
start_grown s pieces terminals old new at vertex terminal none taken low =
    let alone : (v : ℕ) → labels_number new v ≡ 0 → v ≡ at = λ v is. ⊎_elim (λ same. absurd (omega (arith, same, none v, is))) (λ here. here.0) (taken.changed v) in
    record {
      total = 0;
      joined = λ a b is_a is_b. subst (λ v. WalkBetween s (InPieces []) v b) (sym (alone a is_a)) (subst (WalkBetween s (InPieces []) at) (sym (alone b is_b)) (WalkBetween-refl s (InPieces []) at vertex));
      light = record { set = []; is_set = no_pieces pieces; listed = λ p listed. absurd (omega (arith, listed.1)); light = omega arith };
      exchanged = λ links spans.
          exchanged_more (InVertices terminals) links (λ u. u ≡ at) (λ u. labels_number new u ≡ 0) 0 (λ v here. omega (arith, low, ap (labels_number new) here))
          (exchanged_at_start (InVertices terminals) links at (λ v is. spans.connects v at is terminal));
    }
