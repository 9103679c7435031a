-- How a flood goes on.
use Rattle.std.proofs.Common.{◌≡◌, ℕ, suc, ◌+◌, ◌<◌, ◌≤◌, ◌⊎◌, Bool, true, false, List, [], ◌∷◌, ◌++◌, length, eqb, Option, None, Some, IsSome, refl, sym, ◌∙◌, ap, subst, inl, inr, ⊎_elim, arith}
use Rattle.std.specs.List.{list_any, IsDistinct}
use Rattle.std.proofs.lemmas.Bool.{cases_eq, ne_eqb}
use Rattle.std.proofs.lemmas.List.{length-map, length_push, map-append}
use Rattle.std.proofs.lemmas.List.Elements.{Contains-push, Contains-push_cases, Contains-append_left}
use Rattle.std.proofs.lemmas.Map.Keys.{IsDistinct-push}
use Rattle.std.proofs.lemmas.Map.Steps.{length-le_from_distinct_below}
use Rattle.std.proofs.lemmas.Cmp.{nat_eq_equiv}
use Rattle.std.proofs.lemmas.Option.{same_Some, slice_get_within}
use Rattle.grid_base.specs.declared.piece.Piece.{Piece}
use Rattle.grid_base.specs.declared.size.Size.{Size}
use Rattle.grid_base.specs.declared.vertex.Vertex.{Vertex}
use Rattle.grid_base.specs.Flood.{IsMarked, IsClosed, IsFlooded, IsFlooding}
use Rattle.grid_base.specs.Lists.{At}
use Rattle.grid_base.specs.Neighbours.{steps}
use Rattle.grid_base.specs.Numbers.{vertices, IsVertex}
use Rattle.grid_base.specs.Walks.{AreLinked, InVertices}
use Rattle.grid_base.proofs.Lists.{At-push_cases, At-from_member, member_from_place}
use Rattle.grid_base.proofs.Neighbours.{connects_step}
use Rattle.grid_base.proofs.Options.{some_is, none_or_some, some_value}
use Rattle.grid_base.proofs.SameNumbers.{numbers}
use Rattle.grid_base.proofs.Walks.{WalkBetween-refl, WalkBetween-trans, WalkBetween-link, walk_vertices, closed_under_walks}

-- what had a mark keeps it when a vertex is marked
pub kept_by_mark : (before after : ℕ → Option ℕ) (mark v : ℕ) (new : Bool) → IsMarked before after mark v new → (w m : ℕ) → before w ≡ Some m → after w ≡ Some m
kept_by_mark before after mark v true marked w m had =
    ⊎_elim
    (λ (is : w ≡ v). let none : Some m ≡ None = sym had ∙ ap before is ∙ (marked.first refl).0 in cc)
    (λ other. marked.others w other ∙ had)
    (cases_eq w v)
kept_by_mark before after mark v false marked w m had =
    ⊎_elim
    (λ (is : w ≡ v). ap after is ∙ (marked.again refl).1 ∙ ap before (sym is) ∙ had)
    (λ other. marked.others w other ∙ had)
    (cases_eq w v)

-- so what is marked stays so
pub some_by_mark : (before after : ℕ → Option ℕ) (mark v : ℕ) (new : Bool) → IsMarked before after mark v new → (w : ℕ) → IsSome (before w) → IsSome (after w)
some_by_mark before after mark v new marked w had =
    let value = some_value (before w) had in
    some_is (after w) value.0 (kept_by_mark before after mark v new marked w value.0 value.1)

-- where the vertex had a mark nothing changes
same_by_mark : (before after : ℕ → Option ℕ) (mark v : ℕ) → IsMarked before after mark v false → (w : ℕ) → after w ≡ before w
same_by_mark before after mark v marked w =
    ⊎_elim (λ (is : w ≡ v). ap after is ∙ (marked.again refl).1 ∙ ap before (sym is)) (λ other. marked.others w other) (cases_eq w v)

-- a member of a list with one more in the end
member_cases : (met : List Vertex) (to : Vertex) (v : ℕ) → InVertices (met ++ to ∷ []) v → InVertices met v ⊎ (v ≡ to.0)
member_cases met to v member =
    ⊎_elim (λ old. inl old) (λ last. inr (sym (ap (λ (x : Vertex). x.0) last))) (Contains-push_cases met to (record { 0 = v }) member)

-- a flood begins with its start
pub IsFlooding-first : (s : Size) (F : Piece → Type 0) (before now : ℕ → Option ℕ) (mark : ℕ) (start : Vertex) → IsVertex s start.0 → IsMarked before now mark start.0 true → IsFlooding s F before now mark start.0 (start ∷ []) 0
unfolding IsDistinct
IsFlooding-first s F before now mark start vertex marked =
    let first = marked.first refl in
    let alone : (v : ℕ) → InVertices (start ∷ []) v → v ≡ start.0 = λ v member. ⊎_elim (λ none. absurd (omega (arith, none.1))) (λ is. is) (member_cases [] start v member) in
    record {
      kept = kept_by_mark before now mark start.0 true marked;
      new = λ v member. rw (alone v member) (first.0, first.1, WalkBetween-refl s F start.0 vertex);
      only = λ v had. ⊎_elim
          (λ is. inr (rw is (Contains-push [] start)))
          (λ other. inl (rw (sym (marked.others v other)) had))
          (cases_eq v start.0);
      distinct = (tt, tt);
      begun = Contains-push [] start;
      within = omega arith;
      spread = λ k w v below at link. absurd (omega (arith, below));
    }

-- a vertex that had a mark changes nothing
pub IsFlooding-again : (s : Size) (F : Piece → Type 0) (before now after : ℕ → Option ℕ) (mark start : ℕ) (met : List Vertex) (done to : ℕ) → IsFlooding s F before now mark start met done → IsMarked now after mark to false → IsFlooding s F before after mark start met done
IsFlooding-again s F before now after mark start met done to flooding marked =
    let same = same_by_mark now after mark to marked in
    record {
      kept = λ v m had. same v ∙ flooding.kept v m had;
      new = λ v member. let new = flooding.new v member in (new.0, same v ∙ new.1, new.2);
      only = λ v had. flooding.only v (rw (sym (same v)) had);
      distinct = flooding.distinct;
      begun = flooding.begun;
      within = flooding.within;
      spread = λ k w v below at link. some_by_mark now after mark to false marked w (flooding.spread k w v below at link);
    }

-- what had no mark before is in no list of vertices that have one
not_met : (now : ℕ → Option ℕ) (mark to : ℕ) (met : List Vertex) → ((v : ℕ) → InVertices met v → now v ≡ Some mark) → now to ≡ None → list_any (eqb to) (numbers met) ≡ false
not_met now mark to [] all none = refl
not_met now mark to (v ∷ met) all none =
    let other : eqb to v.0 ≡ false = ne_eqb to v.0 (λ is. let no : None ≡ Some mark = sym none ∙ ap now is ∙ all v.0 (0, omega arith, refl) in cc) in
    rw other (not_met now mark to met (λ u member. all u (suc member.0, omega (arith, member.1), member.2)) none)

-- a new vertex is listed behind those that were met
pub IsFlooding-pushed : (s : Size) (F : Piece → Type 0) (before now after : ℕ → Option ℕ) (mark start : ℕ) (met : List Vertex) (done : ℕ) (from to : Vertex) → IsFlooding s F before now mark start met done → InVertices met from.0 → AreLinked s F from.0 to.0 → IsMarked now after mark to.0 true → IsFlooding s F before after mark start (met ++ to ∷ []) done
IsFlooding-pushed s F before now after mark start met done from to flooding member link marked =
    let first = marked.first refl in
    let kept = kept_by_mark now after mark to.0 true marked in
    let grown : length (met ++ to ∷ []) ≡ length met + 1 = length_push met to in
    let none : before to.0 ≡ None =
    ⊎_elim (λ none. none) (λ had. let no : None ≡ Some had.0 = sym first.0 ∙ flooding.kept to.0 had.0 had.1 in cc) (none_or_some (before to.0)) in
    record {
      kept = λ v m had. kept v m (flooding.kept v m had);
      new = λ v at. ⊎_elim
          (λ old. let new = flooding.new v old in (new.0, kept v mark new.1, new.2))
          (λ is. rw is (none, first.1, WalkBetween-trans s F start from.0 to.0 (flooding.new from.0 member).2 (WalkBetween-link s F from.0 to.0 link)))
          (member_cases met to v at);
      only = λ v had. ⊎_elim
          (λ is. inr (rw is (Contains-push met to)))
          (λ other. ⊎_elim
          (λ old. inl old)
          (λ at. inr (Contains-append_left met (to ∷ []) (record { 0 = v }) at))
          (flooding.only v (subst IsSome (marked.others v other) had)))
          (cases_eq v to.0);
      distinct = rw (map-append (λ (v : Vertex). v.0) met (to ∷ []))
          (IsDistinct-push nat_eq_equiv (numbers met) to.0 flooding.distinct (not_met now mark to.0 met (λ v at. (flooding.new v at).1) first.0));
      begun = Contains-append_left met (to ∷ []) (record { 0 = start }) flooding.begun;
      within = omega (arith, flooding.within, grown);
      spread = λ k w v below stands linked. ⊎_elim
          (λ old. some_by_mark now after mark to.0 true marked w (flooding.spread k w v below old linked))
          (λ last. absurd (omega (arith, flooding.within, below, last.0)))
          (At-push_cases met to v k stands);
    }

-- once all that is linked to a vertex is marked, it is done
pub IsFlooding-done : (s : Size) (F : Piece → Type 0) (before now : ℕ → Option ℕ) (mark start : ℕ) (met : List Vertex) (done : ℕ) (from : Vertex) → IsFlooding s F before now mark start met done → At met done from → ((w : ℕ) → AreLinked s F from.0 w → IsSome (now w)) → IsFlooding s F before now mark start met (done + 1)
IsFlooding-done s F before now mark start met done from flooding at all = record {
  kept = flooding.kept;
  new = flooding.new;
  only = flooding.only;
  distinct = flooding.distinct;
  begun = flooding.begun;
  within = omega (arith, slice_get_within met done from at);
  spread = λ k w v below stands link. ⊎_elim
      (λ (is : k ≡ done).
      let same : v ≡ from = same_Some v from (sym (subst (λ (n : ℕ). At met n v) is stands) ∙ at) in
      all w (subst (λ (x : Vertex). AreLinked s F x.0 w) same link))
      (λ other. flooding.spread k w v (omega arith) stands link)
      (cases_eq k done);
}

below_all : (n : ℕ) (met : List Vertex) → ((v : ℕ) → InVertices met v → v < n) → (q : ℕ) → list_any (eqb q) (numbers met) ≡ true → q < n
below_all n [] all q is = let no : ◌≡◌ {A = ℕ} 1 0 = cc in absurd (omega (arith, no))
below_all n (v ∷ met) all q is =
    ⊎_elim
    (λ (same : q ≡ v.0). rw same (all v.0 (0, omega arith, refl)))
    (λ other. below_all n met (λ u member. all u (suc member.0, omega (arith, member.1), member.2)) q (rw (ne_eqb q v.0 other) at is))
    (cases_eq q v.0)

-- no more vertices are met than there are
pub met-le : (s : Size) (F : Piece → Type 0) (before now : ℕ → Option ℕ) (mark start : ℕ) (met : List Vertex) (done : ℕ) → IsFlooding s F before now mark start met done → length met ≤ vertices s
met-le s F before now mark start met done flooding =
    let below = below_all (vertices s) met (λ v member. (walk_vertices s F start v (flooding.new v member).2).1) in
    omega (arith, length-map met (λ (v : Vertex). v.0), length-le_from_distinct_below (numbers met) (vertices s) flooding.distinct below)

-- where all that were met are done, the flood is over
pub IsFlooded-from_flooding : (s : Size) (F : Piece → Type 0) (before now : ℕ → Option ℕ) (mark start : ℕ) (met : List Vertex) (done : ℕ) → IsClosed s F before → IsFlooding s F before now mark start met done → length met ≤ done → IsFlooded s F before now mark start
IsFlooded-from_flooding s F before now mark start met done closed flooding over =
    let value : (v m : ℕ) → before v ≡ Some m → IsSome (now v) = λ v m had. some_is (now v) m (flooding.kept v m had) in
    record {
      kept = flooding.kept;
      new = λ v m none has. ⊎_elim
          (λ had. let old = some_value (before v) had in let no : None ≡ Some old.0 = sym none ∙ old.1 in cc)
          (λ member. let new = flooding.new v member in (same_Some m mark (sym has ∙ new.1), new.2))
          (flooding.only v (some_is (now v) m has));
      reached = λ v walk. closed_under_walks s F (λ u. IsSome (now u))
          (λ u w had link. ⊎_elim
          (λ old. let next = some_value (before w) (closed u w old link) in value w next.0 next.1)
          (λ member. let place = At-from_member met (record { 0 = u }) member in flooding.spread place.0 w (record { 0 = u }) (omega (arith, place.1, over)) place.2 link)
          (flooding.only u had))
          start v (some_is (now start) mark (flooding.new start flooding.begun).1) walk;
    }

-- where the start had a mark, all that is joined to it had one
pub IsFlooded-again : (s : Size) (F : Piece → Type 0) (before now : ℕ → Option ℕ) (mark start : ℕ) → IsClosed s F before → IsMarked before now mark start false → IsFlooded s F before now mark start
IsFlooded-again s F before now mark start closed marked =
    let same = same_by_mark before now mark start marked in
    record {
      kept = λ v m had. same v ∙ had;
      new = λ v m none has. let no : None ≡ Some m = sym none ∙ sym (same v) ∙ has in cc;
      reached = λ v walk. rw (same v) (closed_under_walks s F (λ u. IsSome (before u)) (λ u w had link. closed u w had link) start v (marked.again refl).0 walk);
    }

-- the ends of the first n steps from a vertex are marked, where the pieces are in F
abbrev pub MarksSteps : Size → (Piece → Type 0) → (ℕ → Option ℕ) → ℕ → ℕ → Type 0
MarksSteps s F now from n = (k : ℕ) (to : Vertex) (by : Piece) → k < n → At (steps s from) k (Some (to, by)) → F by → IsSome (now to.0)

-- one step more
pub MarksSteps-more : (s : Size) (F : Piece → Type 0) (old now : ℕ → Option ℕ) (from n : ℕ) (to : Vertex) (by : Piece) → ((v : ℕ) → IsSome (old v) → IsSome (now v)) → MarksSteps s F old from n → At (steps s from) n (Some (to, by)) → (F by → IsSome (now to.0)) → MarksSteps s F now from (n + 1)
MarksSteps-more s F old now from n to by kept before here visited k to' by' below at allowed =
    ⊎_elim
    (λ (is : k ≡ n).
    let same : (to, by) ≡ (to', by') = same_Some _ _ (same_Some _ _ (sym here ∙ subst (λ (x : ℕ). At (steps s from) x (Some (to', by'))) is at)) in
    subst (λ (x : Vertex × Piece). F x.1 → IsSome (now x.0.0)) same visited allowed)
    (λ other. kept to'.0 (before k to' by' (omega arith) at allowed))
    (cases_eq k n)

-- or one that isn't there
pub MarksSteps-none : (s : Size) (F : Piece → Type 0) (now : ℕ → Option ℕ) (from n : ℕ) → MarksSteps s F now from n → At (steps s from) n None → MarksSteps s F now from (n + 1)
MarksSteps-none s F now from n before here k to by below at allowed =
    ⊎_elim
    (λ (is : k ≡ n).
    let none : Some (to, by) ≡ None = same_Some _ _ (sym (subst (λ (x : ℕ). At (steps s from) x (Some (to, by))) is at) ∙ here) in
    cc)
    (λ other. before k to by (omega arith) at allowed)
    (cases_eq k n)

-- after all six, all that is linked to the vertex is marked
pub marks_linked : (s : Size) (F : Piece → Type 0) (now : ℕ → Option ℕ) (from : ℕ) → MarksSteps s F now from 6 → (w : ℕ) → AreLinked s F from w → IsSome (now w)
marks_linked s F now from steps w link =
    let step = connects_step s link.piece from w link.connects in
    steps step.0 (record { 0 = w }) link.piece step.1 step.2 link.in_set

-- what was met is a vertex
pub met_vertex : (s : Size) (F : Piece → Type 0) (before now : ℕ → Option ℕ) (mark start : ℕ) (met : List Vertex) (done k : ℕ) (v : Vertex) → IsFlooding s F before now mark start met done → At met k v → IsVertex s v.0
met_vertex s F before now mark start met done k v flooding at =
    (walk_vertices s F start v.0 (flooding.new v.0 (member_from_place met k v at)).2).1
