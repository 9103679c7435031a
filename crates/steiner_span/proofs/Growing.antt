-- Numbers in the course of the growth of a tree.
use Rattle.std.proofs.Common.{◌≡◌, ℕ, ◌+◌, ◌<◌, ◌≤◌, List, refl, sym, ◌∙◌, ap, subst, inl, inr, ⊎_elim, arith}
use Rattle.std.proofs.lemmas.Bool.{cases_eq}
use Rattle.grid_base.specs.declared.piece.Piece.{Piece}
use Rattle.grid_base.specs.declared.size.Size.{Size}
use Rattle.grid_base.specs.Numbers.{Connects}
use Rattle.grid_graph.specs.Weighed.{Weighs, IsAllowed}
use Rattle.shortest_paths.specs.declared.labels.Labels.{Labels}
use Rattle.steiner_span.specs.Growths.{AreKeys, AfterOffer, AreBehind, IsGrowing, IsTaken, FallsTo, FallsOn, RelaxesOn}
use Rattle.label_search.specs.Paths.{NoneWeighsNothing}
use Rattle.shortest_paths.specs.LabelWords.{labels_number}
use Rattle.shortest_paths.specs.LedSearches.{HasKey, IsOpen, GoOn, Lowers, IsTakenOut}
use Rattle.label_search.specs.Runs.{IsRelaxedWithin}
use Rattle.shortest_paths.proofs.LedSearches.{number_within}
use Rattle.label_search.specs.Searches.{IsBehind, IsRelaxed}
use Rattle.label_search.specs.Stamped.{far}
use Rattle.grid_base.specs.Walks.{Joins}
use Rattle.grid_base.proofs.Walks.{walk_vertices}
use Rattle.grid_graph.specs.Weighed.{NoPieceTwice, AreWithinLimit}
use Rattle.label_search.proofs.Forests.{light_part}
use Rattle.label_search.proofs.Law.{rises_by_weight}

pub go_on_itself : (l : Labels) → GoOn l l
go_on_itself l = record { size = refl; masks = refl; first = λ vertices count first. first }

pub go_on_to : (a b d : Labels) → GoOn a b → GoOn b d → GoOn a d
go_on_to a b d one other = record { size = other.size ∙ one.size; masks = other.masks ∙ one.masks; first = λ vertices count first. other.first vertices count (one.first vertices count first) }

pub falls_itself : (r : Labels) → FallsTo r r
falls_itself r = record { go_on = go_on_itself r; falls = λ v. omega arith; less = omega arith }

pub falls_to : (a b d : Labels) → FallsTo a b → FallsTo b d → FallsTo a d
falls_to a b d first second = record {
  go_on = go_on_to a b d first.go_on second.go_on;
  falls = λ v. omega (arith, first.falls v, second.falls v);
  less = omega (arith, first.less, second.less);
}

pub falls_on : (a b d : Labels) → FallsOn a b → FallsOn b d → FallsOn a d
falls_on a b d first second = record { to = falls_to a b d first.to second.to; zeros = λ v is. first.zeros v (second.zeros v is) }

pub relaxes_on : (s : Size) (pieces : List (Piece × ℕ)) (a b d : Labels) → RelaxesOn s pieces a b → RelaxesOn s pieces b d → RelaxesOn s pieces a d
relaxes_on s pieces a b d first second = record {
  fell = falls_on a b d first.fell second.fell;
  changed = λ v. ⊎_elim
      (λ same. ⊎_elim (λ still. inl (same ∙ still)) (λ waits. inr (second.kept v waits)) (first.changed v))
      (λ waits. inr waits)
      (second.changed v);
  kept = λ v waits. second.kept v (first.kept v waits);
  behind = λ behind. second.behind (first.behind behind);
}

-- what is behind a neighbour stays so where numbers fall and its own doesn't
pub still_behind : (s : Size) (pieces : List (Piece × ℕ)) (num new : ℕ → ℕ) (v : ℕ) → ((u : ℕ) → new u ≤ num u) → new v ≡ num v → IsBehind s pieces num v → IsBehind s pieces new v
still_behind s pieces num new v falls same old = record {
  before = old.before;
  piece = old.piece;
  by = old.by;
  connects = old.connects;
  weighs = old.weighs;
  less = omega (arith, old.less, falls old.before, same);
}

-- an offer along a piece
pub offered_on : (s : Size) (pieces : List (Piece × ℕ)) (old new : Labels) (from to k : ℕ) (p : Piece) → NoneWeighsNothing pieces → Weighs pieces p k → Connects s p from to → AfterOffer old new to (labels_number old from + k) → RelaxesOn s pieces old new
offered_on s pieces old new from to k p positive weighs connects taken = record {
  fell = record {
    to = record { go_on = taken.go_on; falls = taken.falls; less = taken.less };
    zeros = λ v is. ⊎_elim
        (λ same. sym same ∙ is)
        (λ here. absurd (omega (arith, here.1, is, positive p k weighs)))
        (taken.changed v);
  };
  changed = λ v. ⊎_elim (λ same. inl same) (λ here. inr here.2) (taken.changed v);
  kept = taken.kept;
  behind = λ behind v numbered. ⊎_elim
      (λ same. ⊎_elim (λ none. inl (same ∙ none)) (λ old_way. inr (still_behind s pieces (labels_number old) (labels_number new) v taken.falls same old_way)) (behind v (omega (arith, same, numbered))))
      (λ here. inr (record {
        before = from;
        piece = p;
        by = k;
        connects = subst (Connects s p from) (sym here.0) connects;
        weighs = weighs;
        less = omega (arith, taken.falls from, here.1);
      }))
      (taken.changed v);
}

-- keys where a vertex got a lower number and waits
pub lowered_keys : (rest : ℕ → ℕ) (old new : Labels) (to number key : ℕ) → AreKeys rest old → number < labels_number old to → labels_number old to ≤ far → number ≤ key → key ≤ number + rest to → Lowers old new to number key → AreKeys rest new
lowered_keys rest old new to number key keys less small above under is = record {
  low = λ v k held. ⊎_elim
      (λ here. omega (arith, here.1, above, is.number, ap (labels_number new) here.0))
      (λ other. omega (arith, is.others v other.0, keys.low v k other.1))
      (is.only v k held);
  high = λ v k held. ⊎_elim
      (λ here. omega (arith, here.1, under, is.number, ap (labels_number new) here.0, ap rest here.0))
      (λ other. omega (arith, is.others v other.0, keys.high v k other.1))
      (is.only v k held);
  numbered = λ v k held. ⊎_elim
      (λ here. omega (arith, less, small, is.number, ap (labels_number new) here.0))
      (λ other. omega (arith, is.others v other.0, keys.numbered v k other.1))
      (is.only v k held);
}

pub lowered_takes : (old new : Labels) (to number key : ℕ) → number < labels_number old to → Lowers old new to number key → AfterOffer old new to number
lowered_takes old new to number key less is = record {
  go_on = is.go_on;
  falls = λ v. ⊎_elim (λ here. omega (arith, less, is.number, ap (labels_number new) here, ap (labels_number old) here)) (λ other. omega (arith, is.others v other)) (cases_eq v to);
  changed = λ v. ⊎_elim (λ here. inr (here, ap (labels_number new) here ∙ is.number, subst (IsOpen new) (sym here) (key, is.placed))) (λ other. inl (is.others v other)) (cases_eq v to);
  kept = λ v waits. ⊎_elim (λ here. subst (IsOpen new) (sym here) (key, is.placed)) (λ other. (waits.0, is.kept v waits.0 other waits.1)) (cases_eq v to);
  less = omega (arith, is.less);
}

-- while a terminal isn't in the tree some vertex waits
pub some_waits : (s : Size) (pieces : List (Piece × ℕ)) (T : ℕ → Type 0) (rest : ℕ → ℕ) (r : Labels) → IsGrowing s pieces T rest r → NoPieceTwice pieces → AreWithinLimit pieces → Joins s (IsAllowed pieces) T →
    (v : ℕ) × T v × (labels_number r v ≡ 0) → (v : ℕ) × T v × (0 < labels_number r v) → ((v key : ℕ) → ¬ HasKey r v key) → ⊥
some_waits s pieces T rest r growing once small joins source goal none =
    let nothing : (v : ℕ) → ¬ IsOpen r v = λ v waits. none v waits.0 waits.1 in
    let walk = joins source.0 goal.0 source.1 goal.1 in
    let part = light_part s pieces pieces source.0 small (record { allowed = λ x at. at; once = once }) (walk_vertices s (IsAllowed pieces) source.0 goal.0 walk).0 in
    let low = rises_by_weight s pieces (labels_number r) (λ p k a b weighs connects. growing.relaxed a (nothing a) p k b weighs connects) part.part part.is_set.allowed source.0 goal.0 (part.joins source.0 goal.0 walk) in
    nothing goal.0 (growing.pending goal.0 goal.1 goal.2 (omega (arith, low, source.2, part.light)))

-- what is behind a neighbour stays so where no number changes
pub same_behind : (s : Size) (pieces : List (Piece × ℕ)) (num new : ℕ → ℕ) → ((v : ℕ) → new v ≡ num v) → AreBehind s pieces num → AreBehind s pieces new
same_behind s pieces num new same behind v numbered = ⊎_elim
    (λ none. inl (same v ∙ none))
    (λ way. inr (still_behind s pieces num new v (λ u. omega (arith, same u)) (same v) way))
    (behind v (omega (arith, same v, numbered)))

pub take_falls : (old new : Labels) (at : ℕ) → IsTakenOut old new at → FallsOn old new
take_falls old new at is = record {
  to = record { go_on = is.go_on; falls = λ v. omega (arith, is.numbers v); less = omega (arith, is.less) };
  zeros = λ v zero_v. omega (arith, is.numbers v, zero_v);
}

-- a vertex of least key was taken out
pub take_growing : (s : Size) (pieces : List (Piece × ℕ)) (T : ℕ → Type 0) (rest : ℕ → ℕ) (old new : Labels) (at : ℕ) → IsGrowing s pieces T rest old → IsTakenOut old new at → IsTaken s pieces T rest new at
take_growing s pieces T rest old new at growing is = record {
  keys = record {
    low = λ v key held. omega (arith, is.numbers v, growing.keys.low v key (is.only v key held).1);
    high = λ v key held. omega (arith, is.numbers v, growing.keys.high v key (is.only v key held).1);
    numbered = λ v key held. omega (arith, is.numbers v, growing.keys.numbered v key (is.only v key held).1);
  };
  behind = same_behind s pieces (labels_number old) (labels_number new) is.numbers growing.behind;
  relaxed = λ v other still p k u weighs connects. omega (arith, is.numbers v, is.numbers u, growing.relaxed v (λ waits. still (waits.0, is.kept v waits.0 other waits.1)) p k u weighs connects);
  pending = λ v other terminal some numbered. let waits = growing.pending v terminal (omega (arith, is.numbers v, some)) (omega (arith, is.numbers v, numbered)) in (waits.0, is.kept v waits.0 other waits.1);
  numbered = omega (arith, is.numbers at, growing.keys.numbered at is.least.key is.least.has);
  least = λ v waits. omega (arith, is.numbers v, is.numbers at, growing.keys.low at is.least.key is.least.has, is.least.least v waits.0 (is.only v waits.0 waits.1).1, growing.keys.high v waits.0 (is.only v waits.0 waits.1).1);
}

-- a vertex that was taken out is relaxed
pub relaxed_growing : (s : Size) (pieces : List (Piece × ℕ)) (T : ℕ → Type 0) (rest : ℕ → ℕ) (old new : Labels) (at : ℕ) → IsTaken s pieces T rest old at → (T at → 0 < labels_number old at → ⊥) → AreKeys rest new → RelaxesOn s pieces old new →
    IsRelaxed s pieces (labels_number new) at → IsGrowing s pieces T rest new
relaxed_growing s pieces T rest old new at taken reached keys on relaxed = record {
  keys = keys;
  behind = on.behind taken.behind;
  relaxed = λ v still. ⊎_elim
      (λ here. subst (IsRelaxed s pieces (labels_number new)) (sym here) relaxed)
      (λ other p k u weighs connects. ⊎_elim
      (λ same. omega (arith, same, on.fell.to.falls u, taken.relaxed v other (λ waits. still (on.kept v waits)) p k u weighs connects))
      (λ waits. absurd (still waits))
      (on.changed v))
      (cases_eq v at);
  pending = λ v terminal some numbered. ⊎_elim
      (λ same. ⊎_elim
      (λ here. absurd (reached (subst T here terminal) (omega (arith, some, same, ap (labels_number old) here))))
      (λ other. on.kept v (taken.pending v other terminal (omega (arith, same, some)) (omega (arith, same, numbered))))
      (cases_eq v at))
      (λ waits. waits)
      (on.changed v);
}

-- a vertex keeps its number where it makes an offer
pub still_at : (old new : Labels) (from to reached more : ℕ) → AfterOffer old new to (reached + more) → labels_number old from ≡ reached → labels_number new from ≡ reached
still_at old new from to reached more taken is = ⊎_elim
    (λ same. same ∙ is)
    (λ here. omega (arith, here.1, taken.falls from, is))
    (taken.changed from)

-- where every offer below the number of what has none was answered, all were taken
pub relaxed_whole : (s : Size) (pieces : List (Piece × ℕ)) (l : Labels) (v : ℕ) → IsRelaxedWithin s pieces (λ u. 0) far (labels_number l) v → IsRelaxed s pieces (labels_number l) v
relaxed_whole s pieces l v within p k u weighs connects = ⊎_elim (λ taken. taken) (λ refused. omega (arith, refused, number_within l u)) (within p k u weighs connects)

-- where more is to go
pub taken_more : (s : Size) (pieces : List (Piece × ℕ)) (T : ℕ → Type 0) (rest more : ℕ → ℕ) (l : Labels) (at : ℕ) → ((v : ℕ) → rest v ≤ more v) → IsTaken s pieces T rest l at → IsTaken s pieces T more l at
taken_more s pieces T rest more l at greater taken = record {
  keys = record { low = taken.keys.low; high = λ v key held. omega (arith, taken.keys.high v key held, greater v); numbered = taken.keys.numbered };
  behind = taken.behind;
  relaxed = taken.relaxed;
  pending = taken.pending;
  numbered = taken.numbered;
  least = λ v waits. omega (arith, taken.least v waits, greater v);
}
