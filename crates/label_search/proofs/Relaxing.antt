-- Offers to the neighbours of a vertex, one after the other, and what stands when all were made.
use Rattle.std.proofs.Common.{◌≡◌, ◌≢◌, ℕ, zero, suc, ◌+◌, ◌<◌, ◌≤◌, ◌⊎◌, List, [], ◌∷◌, ◌++◌, Option, Some, None, get_or, map}
use Rattle.std.proofs.Common.{refl, sym, ◌∙◌, ap, subst, inl, inr, ⊎_elim, arith}
use Rattle.std.proofs.lemmas.Bool.{cases_eq}
use Rattle.grid_base.specs.declared.piece.Piece.{Piece}
use Rattle.grid_base.specs.declared.size.Size.{Size}
use Rattle.grid_base.specs.declared.spot.Spot.{Spot}
use Rattle.grid_base.specs.declared.vertex.Vertex.{Vertex}
use Rattle.grid_base.specs.Neighbours.{steps}
use Rattle.grid_base.specs.Numbers.{Connects}
use Rattle.grid_base.specs.Spots.{IsSpot, spot_at, spotted, spot_steps}
use Rattle.grid_base.proofs.Neighbours.{connects_step, steps_lead, step_read}
use Rattle.grid_base.proofs.Spots.{spot_at-is}
use Rattle.grid_base.proofs.Pieces.{end_vertex}
use Rattle.grid_graph.specs.Weighed.{Weighs}
use Rattle.std.proofs.lemmas.Option.{get_or_from_slice_get, same_Some}
use Rattle.label_search.specs.declared.row.Row.{Row}
use Rattle.label_search.specs.Founds.{FindsMore}
use Rattle.label_search.specs.Paths.{IsPath}
use Rattle.label_search.specs.Rows.{number_in}
use Rattle.label_search.specs.Runs.{IsAnswered, IsRelaxedWithin, FallsFrom, Advances}
use Rattle.label_search.proofs.Finding.{FindsMore-refl, FindsMore-trans}

-- a step of the list of the six, with its place
pub record IsSpotStep (s : Size) (from i : ℕ) (to : Spot) (by : Piece) : Type 0 where
  pub step : get_or (steps s from) i None ≡ Some (to.vertex, by)
  pub connects : Connects s by from to.vertex.0
  pub spot : IsSpot s to

spotted_at : (s : Size) (xs : List (Option (Vertex × Piece))) (i : ℕ) (to : Spot) (by : Piece)
    → get_or (map (spotted s) xs) i None ≡ Some (to, by)
    → (get_or xs i None ≡ Some (to.vertex, by)) × (to ≡ spot_at s to.vertex.0)
spotted_at s [] i to by is = cc
spotted_at s (None ∷ xs) zero to by is = cc
spotted_at s (Some x ∷ xs) zero to by is =
    let same : (spot_at s x.0.0, x.1) ≡ (to, by) = same_Some _ _ is in (
      ap (λ (y : Spot × Piece). Some (y.0.vertex, y.1)) same,
      subst (λ (y : Spot). y ≡ spot_at s y.vertex.0) (ap (λ (y : Spot × Piece). y.0) same) refl,
    )
spotted_at s (x ∷ xs) (suc i) to by is = spotted_at s xs i to by is

spotted_none : (s : Size) (xs : List (Option (Vertex × Piece))) (i : ℕ) → get_or (map (spotted s) xs) i None ≡ None
    → get_or xs i None ≡ None
spotted_none s [] i is = refl
spotted_none s (None ∷ xs) zero is = refl
spotted_none s (Some x ∷ xs) zero is = cc
spotted_none s (x ∷ xs) (suc i) is = spotted_none s xs i is

-- a step that was read from a table of the steps
pub spot_step : (s : Size) (at : Spot) (i : ℕ) (table : List (Option (Spot × Piece))) (to : Spot) (by : Piece) → IsSpot s at
    → table ≡ spot_steps s at.vertex.0 → i < 6 → get_or table i None ≡ Some (to, by) → IsSpotStep s at.vertex.0 i to by
spot_step s at i table to by is_spot is low read =
    let from = at.vertex.0 in
    let found = spotted_at s (steps s from) i to by
    (ap (λ (xs : List (Option (Spot × Piece))). get_or xs i None) (sym is) ∙ read) in
    let connects : Connects s by from to.vertex.0 =
    steps_lead s from i (Some (to.vertex, by)) is_spot.vertex
    (step_read s from i (steps s from) (Some (to.vertex, by)) refl low found.0) in
    record {
      step = found.0;
      connects = connects;
      spot = subst (IsSpot s) (sym found.1) (spot_at-is s to.vertex.0 (end_vertex s by from to.vertex.0 connects));
    }

pub no_step : (s : Size) (from i : ℕ) (table : List (Option (Spot × Piece))) → table ≡ spot_steps s from
    → get_or table i None ≡ None → get_or (steps s from) i None ≡ None
no_step s from i table is read = spotted_none s (steps s from) i
    (ap (λ (xs : List (Option (Spot × Piece))). get_or xs i None) (sym is) ∙ read)

-- the steps below this place were offered
abbrev pub OfferedBelow : Size → List (Piece × ℕ) → (ℕ → ℕ) → ℕ → (ℕ → ℕ) → ℕ → ℕ → ℕ → Type 0
OfferedBelow s pieces rest limit num from reached n =
    (i k : ℕ) (w : Vertex) (p : Piece) → i < n → get_or (steps s from) i None ≡ Some (w, p) → Weighs pieces p k
    → IsAnswered num rest limit w.0 (reached + k)

-- an offer stays answered where numbers fall
pub still_answered : (num new rest : ℕ → ℕ) (limit v offered : ℕ) → ((u : ℕ) → new u ≤ num u)
    → IsAnswered num rest limit v offered → IsAnswered new rest limit v offered
still_answered num new rest limit v offered falls answered =
    ⊎_elim (λ taken. inl (omega (arith, taken, falls v))) (λ refused. inr refused) answered

pub offered_none : (s : Size) (pieces : List (Piece × ℕ)) (rest : ℕ → ℕ) (limit : ℕ) (num : ℕ → ℕ) (from reached : ℕ)
    → OfferedBelow s pieces rest limit num from reached 0
offered_none s pieces rest limit num from reached i k w p low is weighs = absurd (omega (arith, low))

pub offered_more : (s : Size) (pieces : List (Piece × ℕ)) (rest : ℕ → ℕ) (limit : ℕ) (old new : ℕ → ℕ) (from reached n : ℕ)
    (to : Vertex) (by : Piece) → OfferedBelow s pieces rest limit old from reached n → ((v : ℕ) → new v ≤ old v) →
    get_or (steps s from) n None ≡ Some (to, by) → ((k : ℕ) → Weighs pieces by k → IsAnswered new rest limit to.0 (reached + k))
    → OfferedBelow s pieces rest limit new from reached (n + 1)
offered_more s pieces rest limit old new from reached n to by below falls here offered i k w p low is weighs = ⊎_elim
    (λ last.
    let same : (to, by) ≡ (w, p) = same_Some (to, by) (w, p)
    (sym here ∙ ap (λ j. get_or (steps s from) j None) (sym last) ∙ is) in
    subst (λ (x : Vertex × Piece). IsAnswered new rest limit x.0.0 (reached + k)) same
    (offered k (subst (λ (x : Vertex × Piece). Weighs pieces x.1 k) (sym same) weighs)))
    (λ before. still_answered old new rest limit w.0 (reached + k) falls (below i k w p (omega arith) is weighs))
    (cases_eq i n)

-- a step that isn't there
pub offered_past : (s : Size) (pieces : List (Piece × ℕ)) (rest : ℕ → ℕ) (limit : ℕ) (num : ℕ → ℕ) (from reached n : ℕ)
    → OfferedBelow s pieces rest limit num from reached n → get_or (steps s from) n None ≡ None
    → OfferedBelow s pieces rest limit num from reached (n + 1)
offered_past s pieces rest limit num from reached n below none i k w p low is weighs = ⊎_elim
    (λ last. let clash : None ≡ Some (w, p) = sym none ∙ ap (λ j. get_or (steps s from) j None) (sym last)
    ∙ is in absurd (cc clash))
    (λ before. below i k w p (omega arith) is weighs)
    (cases_eq i n)

-- all six were offered
pub offered_all : (s : Size) (pieces : List (Piece × ℕ)) (rest : ℕ → ℕ) (limit : ℕ) (num : ℕ → ℕ) (from reached : ℕ)
    → num from ≡ reached → OfferedBelow s pieces rest limit num from reached 6 → IsRelaxedWithin s pieces rest limit num from
offered_all s pieces rest limit num from reached is below p k u weighs connects =
    let found = connects_step s p from u connects in
    subst (λ n. IsAnswered num rest limit u (n + k)) (sym is)
    (below found.0 k (record { 0 = u }) p found.1
    (get_or_from_slice_get (steps s from) found.0 (Some (record { 0 = u }, p)) None found.2) weighs)

-- two paths, one after the other
path_append : (s : Size) (pieces : List (Piece × ℕ)) (a b d first second : ℕ) (path more : List Piece)
    → IsPath s pieces a b first path → IsPath s pieces b d second more → IsPath s pieces a d (first + second) (path ++ more)
path_append s pieces a b d first second [] more (here, nothing) is =
    let same : second ≡ first + second = omega (arith, nothing) in
    subst (λ n. IsPath s pieces a d n more) same (subst (λ v. IsPath s pieces v d second more) (sym here) is)
path_append s pieces a b d first second (q ∷ path) more (next, weight, left, step, rest, sum) is =
    (next, weight, left + second, step, path_append s pieces next b d left second path more rest is, omega (arith, sum))

pub FallsFrom-same : (s : Size) (pieces : List (Piece × ℕ)) (old new : Row) → FindsMore old.found new.found
    → ((v : ℕ) → number_in new v ≡ number_in old v) → FallsFrom s pieces old new
FallsFrom-same s pieces old new found same = record {
  found = found;
  falls = λ v. omega (arith, same v);
  from = λ v has. record {
    before = v;
    path = [];
    length = 0;
    is_path = (refl, refl);
    numbered = omega (arith, same v, has);
    light = omega (arith, same v);
  };
  behind = λ v has. inl (same v);
}

pub FallsFrom-trans : (s : Size) (pieces : List (Piece × ℕ)) (a b d : Row) → FallsFrom s pieces a b → FallsFrom s pieces b d
    → FallsFrom s pieces a d
FallsFrom-trans s pieces a b d first second = record {
  found = FindsMore-trans a.found b.found d.found first.found second.found;
  falls = λ v. omega (arith, first.falls v, second.falls v);
  from = λ v has.
      let later = second.from v has in
      let earlier = first.from later.before later.numbered in
      record {
        before = earlier.before;
        path = earlier.path ++ later.path;
        length = earlier.length + later.length;
        is_path = path_append s pieces earlier.before later.before v earlier.length later.length earlier.path later.path
            earlier.is_path later.is_path;
        numbered = earlier.numbered;
        light = omega (arith, earlier.light, later.light);
      };
  behind = λ v has. ⊎_elim
      (λ same. ⊎_elim
      (λ still. inl (same ∙ still))
      (λ old. inr (record {
        before = old.before;
        piece = old.piece;
        by = old.by;
        connects = old.connects;
        weighs = old.weighs;
        less = omega (arith, old.less, same, second.falls old.before);
      }))
      (first.behind v (omega (arith, same, has))))
      (λ new. inr new)
      (second.behind v has);
}

pub Advances-refl : (s : Size) (pieces : List (Piece × ℕ)) (r : Row) → Advances s pieces r r
Advances-refl s pieces r = record {
  fell = FallsFrom-same s pieces r r (FindsMore-refl r.found) (λ v. refl);
  changed = λ v. inl refl;
  kept = λ v waits. waits;
  less = omega arith;
}

pub Advances-trans : (s : Size) (pieces : List (Piece × ℕ)) (a b d : Row) → Advances s pieces a b → Advances s pieces b d
    → Advances s pieces a d
Advances-trans s pieces a b d first second = record {
  fell = FallsFrom-trans s pieces a b d first.fell second.fell;
  changed = λ v. ⊎_elim
      (λ same. ⊎_elim (λ still. inl (same ∙ still)) (λ waits. inr (second.kept v waits)) (first.changed v))
      (λ waits. inr waits)
      (second.changed v);
  kept = λ v waits. second.kept v (first.kept v waits);
  less = omega (arith, first.less, second.less);
}

-- after a vertex that was taken out was relaxed, each vertex that doesn't wait is relaxed
pub settled_on : (s : Size) (pieces : List (Piece × ℕ)) (rest : ℕ → ℕ) (limit : ℕ) (num new : ℕ → ℕ) (Old Mid New : ℕ → Type 0)
    (from : ℕ) → ((v : ℕ) → ¬ Old v → IsRelaxedWithin s pieces rest limit num v) → ((v : ℕ) → v ≢ from → Old v → Mid v) →
    ((v : ℕ) → new v ≤ num v) → ((v : ℕ) → (new v ≡ num v) ⊎ New v) → ((v : ℕ) → Mid v → New v)
    → IsRelaxedWithin s pieces rest limit new from → (v : ℕ) → ¬ New v → IsRelaxedWithin s pieces rest limit new v
settled_on s pieces rest limit num new Old Mid New from settled taken falls changed kept relaxed v still = ⊎_elim
    (λ here. subst (IsRelaxedWithin s pieces rest limit new) (sym here) relaxed)
    (λ other p k u weighs connects. ⊎_elim
    (λ same. still_answered num new rest limit u (new v + k) falls
    (subst (λ n. IsAnswered num rest limit u (n + k)) (sym same)
    (settled v (λ old. still (kept v (taken v other old))) p k u weighs connects)))
    (λ waits. absurd (still waits))
    (changed v))
    (cases_eq v from)
