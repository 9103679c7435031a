-- Lists without repeats.
use Rattle.std.proofs.Common.{◌≡◌, ◌≢◌, ℕ, ◌+◌, ◌<◌, ◌≤◌, le_refl, arith, Bool, true, false, cond, not, ◌||◌, ◌==◌, List, [], ◌∷◌, ◌++◌, length, Some, refl, sym, ap, ◌∙◌, ⊎_elim, eq-eqb, ne_eqb, eqb-true, take, get_or}
use Rattle.std.specs.List.{list_any, All}
use Rattle.std.proofs.lemmas.Bool.{cases_Bool, cases_eq, false≢true}
use Rattle.std.proofs.lemmas.List.{append-nil, map_more, map_push}
use Rattle.std.proofs.lemmas.List.Elements.{filter-append, All-nil, All-cons, All-head, All-tail, All-filter}
use Rattle.std.proofs.lemmas.List.Sums.{length-filter, count_by-le-length}
use Rattle.std.proofs.lemmas.Map.Views.{any-filter_same}
use Rattle.std.specs.Cmp.{unsigned_tied}
use Rattle.std.specs.Option.{option_map}
use Rattle.std.specs.Ordering.{nat_cmp, eq_by_cmp}
use Rattle.grid_base.specs.declared.vertex.Vertex.{Vertex}
use Rattle.std.proofs.lemmas.Option.{slice_get-map}
use Rattle.grid_base.proofs.Lists.{list_any-pushed, not_at}
use Rattle.grid_base.proofs.NoRepeats.{HasNoRepeats-push}
use Rattle.grid_base.specs.Lists.{At, HasNoRepeats}
use Rattle.grid_graph.specs.Terms.{numbers, without_repeats}

-- one more vertex
pub without_repeats-push : (xs : List ℕ) (v : ℕ) → without_repeats (xs ++ v ∷ []) ≡ cond (list_any (λ w. w == v) xs) (without_repeats xs) (without_repeats xs ++ v ∷ [])
without_repeats-push [] v = refl
without_repeats-push (x ∷ xs) v = ⊎_elim
    (λ (e : list_any (λ w. w == v) xs ≡ true).
    let again : without_repeats (xs ++ v ∷ []) ≡ without_repeats xs = without_repeats-push xs v ∙ rw e refl in
    let some : (x == v || list_any (λ w. w == v) xs) ≡ true = rw e (elim (x == v) as (λ b. (b || true) ≡ true) [ true ↦ refl | false ↦ refl ]) in
    rw (again, some) refl)
    (λ (e : list_any (λ w. w == v) xs ≡ false).
    let more : without_repeats (xs ++ v ∷ []) ≡ without_repeats xs ++ v ∷ [] = without_repeats-push xs v ∙ rw e refl in
    ⊎_elim
    (λ (h : x ≡ v).
    let here : (x == v) ≡ true = eq-eqb x v h in
    let there : (v == x) ≡ true = eq-eqb v x (sym h) in
    rw (more, e, here) (ap (λ ys. x ∷ ys) (filter-append (λ w. not (w == x)) (without_repeats xs) (v ∷ []) ∙ rw there (append-nil _))))
    (λ (h : x ≢ v).
    let here : (x == v) ≡ false = ne_eqb x v h in
    let there : (v == x) ≡ false = ne_eqb v x (λ e. h (sym e)) in
    rw (more, e, here) (ap (λ ys. x ∷ ys) (filter-append (λ w. not (w == x)) (without_repeats xs) (v ∷ []) ∙ rw there refl)))
    (cases_eq x v))
    (cases_Bool (list_any (λ w. w == v) xs))

-- a list has the vertices that it has with repeats
pub any_without_repeats : (q : ℕ) (xs : List ℕ) → list_any (λ w. w == q) (without_repeats xs) ≡ list_any (λ w. w == q) xs
any_without_repeats q [] = refl
any_without_repeats q (x ∷ xs) = ⊎_elim
    (λ (h : x ≡ q). let here : (x == q) ≡ true = eq-eqb x q h in rw here refl)
    (λ (h : x ≢ q).
    let here : (x == q) ≡ false = ne_eqb x q h in
    let others : (w : ℕ) → (w == q) ≡ true → not (w == x) ≡ true = λ w is. ap not (ne_eqb w x (λ e. h (sym e ∙ eqb-true w q is))) in
    rw here (any-filter_same (λ w. w == q) (λ w. not (w == x)) true others (without_repeats xs) ∙ any_without_repeats q xs))
    (cases_eq x q)

-- a set of vertices, as a test, is what a list has
abbrev pub Has : (ℕ → Bool) → List Vertex → Type 0
Has seen vertices = (q : ℕ) → seen q ≡ list_any (λ w. w == q) (numbers vertices)

-- the list has no repeats, and the vertices of so many pins
pub record AreTerminals (pins : List Vertex) (i : ℕ) (seen : ℕ → Bool) (vertices : List Vertex) : Type 0 where
  pub numbered : numbers vertices ≡ without_repeats (numbers (take i pins))
  pub has : Has seen vertices
  pub distinct : HasNoRepeats vertices

seen_before : (pins : List Vertex) (i : ℕ) (seen : ℕ → Bool) (vertices : List Vertex) (q : ℕ) → AreTerminals pins i seen vertices → list_any (λ w. w == q) (numbers (take i pins)) ≡ seen q
seen_before pins i seen vertices q so_far = sym (any_without_repeats q (numbers (take i pins))) ∙ ap (list_any (λ w. w == q)) (sym so_far.numbered) ∙ sym (so_far.has q)

-- the next pin is at a new vertex
pub terminal_added : (pins : List Vertex) (i : ℕ) (old new : ℕ → Bool) (vertices : List Vertex) (v : Vertex) → i < length pins → v ≡ get_or pins i (record { 0 = 0 }) → AreTerminals pins i old vertices → old v.0 ≡ false →
    ((q : ℕ) → new q ≡ cond (eq_by_cmp nat_cmp v.0 q) true (old q)) → AreTerminals pins (i + 1) new (vertices ++ v ∷ [])
terminal_added pins i old new vertices v lt is so_far absent more =
    let next : numbers (vertices ++ v ∷ []) ≡ numbers vertices ++ v.0 ∷ [] = map_push (λ (w : Vertex). w.0) vertices v in
    let none : list_any (λ w. w == v.0) (numbers (take i pins)) ≡ false = seen_before pins i old vertices v.0 so_far ∙ absent in
    let pinned : numbers (take (i + 1) pins) ≡ numbers (take i pins) ++ v.0 ∷ [] = rw is (map_more (λ (w : Vertex). w.0) pins i (record { 0 = 0 }) lt) in
    record {
      numbered = next ∙ sym (ap without_repeats pinned ∙ without_repeats-push (numbers (take i pins)) v.0 ∙ rw none (ap (λ ns. ns ++ v.0 ∷ []) (sym so_far.numbered)));
      has = λ q. more q ∙ ap (λ b. cond b true (old q)) (unsigned_tied v.0 q) ∙ elim (v.0 == q) as (λ b. cond b true (old q) ≡ (b || old q)) [ true ↦ refl | false ↦ refl ] ∙ ap (λ b. v.0 == q || b) (so_far.has q)
          ∙ sym (ap (list_any (λ w. w == q)) next ∙ list_any-pushed (λ w. w == q) (numbers vertices) v.0);
      distinct = HasNoRepeats-push vertices v so_far.distinct (λ j w at_j same.
          let found : At (numbers vertices) j v.0 = slice_get-map (λ (u : Vertex). u.0) vertices j ∙ ap (option_map (λ (u : Vertex). u.0)) at_j ∙ ap (λ (u : Vertex). Some u.0) same in
          let nowhere : list_any (λ u. u == v.0) (numbers vertices) ≡ false = sym (so_far.has v.0) ∙ absent in
          false≢true (sym (not_at (λ u. u == v.0) (numbers vertices) nowhere j v.0 found) ∙ eq-eqb v.0 v.0 refl));
    }

-- the next pin is at a vertex that is there
pub terminal_known : (pins : List Vertex) (i : ℕ) (old new : ℕ → Bool) (vertices : List Vertex) (v : Vertex) → i < length pins → v ≡ get_or pins i (record { 0 = 0 }) → AreTerminals pins i old vertices → old v.0 ≡ true →
    ((q : ℕ) → new q ≡ cond (eq_by_cmp nat_cmp v.0 q) true (old q)) → AreTerminals pins (i + 1) new vertices
terminal_known pins i old new vertices v lt is so_far known more =
    let some : list_any (λ w. w == v.0) (numbers (take i pins)) ≡ true = seen_before pins i old vertices v.0 so_far ∙ known in
    let pinned : numbers (take (i + 1) pins) ≡ numbers (take i pins) ++ v.0 ∷ [] = rw is (map_more (λ (w : Vertex). w.0) pins i (record { 0 = 0 }) lt) in
    record {
      numbered = so_far.numbered ∙ sym (ap without_repeats pinned ∙ without_repeats-push (numbers (take i pins)) v.0 ∙ rw some refl);
      has = λ q. more q ∙ ap (λ b. cond b true (old q)) (unsigned_tied v.0 q) ∙ (⊎_elim
          (λ (h : v.0 ≡ q). let here : (v.0 == q) ≡ true = eq-eqb v.0 q h in rw here (sym (ap old (sym h) ∙ known)))
          (λ (h : v.0 ≢ q). let here : (v.0 == q) ≡ false = ne_eqb v.0 q h in rw here refl)
          (cases_eq v.0 q)) ∙ so_far.has q;
      distinct = so_far.distinct;
    }

-- there are no more terminals than pins
pub length-without_repeats : (xs : List ℕ) → length (without_repeats xs) ≤ length xs
length-without_repeats [] = le_refl 0
length-without_repeats (x ∷ xs) = omega (arith, length-without_repeats xs, length-filter (λ w. not (w == x)) (without_repeats xs), count_by-le-length (λ w. not (w == x)) (without_repeats xs))

-- and each is at a pin
pub All-without_repeats : (P : ℕ → Type 0) (xs : List ℕ) → All P xs → All P (without_repeats xs)
All-without_repeats P [] h = All-nil P
All-without_repeats P (x ∷ xs) h = All-cons P x _ (All-head P x xs h) (All-filter (λ w. not (w == x)) P (without_repeats xs) (All-without_repeats P xs (All-tail P x xs h)))
