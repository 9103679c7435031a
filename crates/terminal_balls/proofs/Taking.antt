-- A vertex is taken out and relaxed, until balls end where one waits.
use Rattle.std.proofs.Common.{◌≡◌, ℕ, ◌≤◌, List, slice_index, sym, ◌∙◌, ap, refl, subst, inl, inr, ⊎_elim, arith}
use Rattle.std.proofs.lemmas.Bool.{cases_eq}
use Rattle.std.proofs.lemmas.Bool.Decides.{nat_tests}
use Rattle.grid_base.specs.declared.piece.Piece.{Piece}
use Rattle.grid_base.specs.declared.size.Size.{Size}
use Rattle.grid_base.specs.declared.vertex.Vertex.{Vertex}
use Rattle.grid_base.specs.Numbers.{vertices}
use Rattle.shortest_paths.specs.declared.labels.Labels.{Labels}
use Rattle.shortest_paths.specs.LabelWords.{labels_number}
use Rattle.shortest_paths.specs.LedSearches.{IsTakenOut, IsOpen}
use Rattle.terminal_balls.specs.declared.terminal_balls.TerminalBalls.{TerminalBalls}
use Rattle.terminal_balls.specs.Balls.{Balls, AreBalls, share, balls_of, widest}
use Rattle.terminal_balls.specs.Growths.{AreKept, AreGrowing, GrowOn, IsOwn, IsRelaxed, IsSame, IsWithin, Shrink}
use Rattle.terminal_balls.proofs.Growing.{Shrink-trans, own_on, relaxed_on}

-- the balls with other labels and other radii
abbrev pub with_labels : TerminalBalls → Labels → List ℕ → TerminalBalls
with_labels old l radii = record { labels = l; owners = old.owners; radii = radii; sums = old.sums }

pub kept_taken : (old : TerminalBalls) (l : Labels) (radii : List ℕ) (at : ℕ) → AreKept old
    → ((place : ℕ) → slice_index radii place ≤ widest) → IsTakenOut old.labels l at → AreKept (with_labels old l radii)
kept_taken old l radii at kept small taken = record {
  owners = kept.owners ∙ ap (λ (s : Size). vertices s) (sym taken.go_on.size);
  few = kept.few;
  small = small;
  keys = λ v key held. taken.numbers v ∙ kept.keys v key (taken.only v key held).1;
}

-- balls grow on where the vertex that was taken out is relaxed
pub growing_on : (s : Size) (pieces : List (Piece × ℕ)) (over : ℕ → ℕ) (terminals : List Vertex) (old new : TerminalBalls)
    (l : Labels) (at : ℕ) → AreKept old → IsTakenOut old.labels l at → GrowOn (with_labels old l old.radii) new
    → (IsWithin (balls_of new) at → IsRelaxed s pieces over (balls_of new) at) → AreGrowing s pieces over terminals old
    → AreGrowing s pieces over terminals new
growing_on s pieces over terminals old new l at kept taken grow relaxed growing =
    let mid = with_labels old l old.radii in
    let shrunk : Shrink (balls_of old) (balls_of mid) = record {
      radii = λ place. omega arith;
      numbers = λ v. omega (arith, taken.numbers v);
      owned = λ v low. refl;
    } in
    let shrink = Shrink-trans (balls_of old) (balls_of mid) (balls_of new) shrunk grow.shrink in
    record {
      own = λ place v is. own_on (balls_of old) (balls_of new) shrink place v.0 (growing.own place v is);
      steps = λ a within. ⊎_elim
          (λ same. ⊎_elim
          (λ here. inr (subst (IsRelaxed s pieces over (balls_of new)) (sym here) (relaxed (subst (IsWithin (balls_of new)) here within))))
          (λ other.
          let still : IsSame (balls_of old) (balls_of new) a = (same.0 ∙ taken.numbers a, same.1) in
          let was : IsWithin (balls_of old) a = omega (
            arith,
            within,
            still.0,
            shrink.radii (slice_index new.owners.items a),
            ap (λ o. slice_index old.radii o) still.1,
          ) in
          ⊎_elim
          (λ held. inl (grow.waits a (held.0, taken.kept a held.0 other held.1)))
          (λ met. inr (relaxed_on s pieces over (balls_of old) (balls_of new) shrink kept.small a still met))
          (growing.steps a was))
          (cases_eq a at))
          (λ held. inl held)
          (grow.changed a);
    }

own_share : (b : Balls) (place v : ℕ) → IsOwn b place v → share b place v ≡ 0
own_share b place v own = ⊎_elim
    (λ none. grind (arith, nat_tests))
    (λ centre. grind (arith, nat_tests))
    own

-- balls that reach no farther than a vertex that waits
pub ended : (s : Size) (pieces : List (Piece × ℕ)) (over : ℕ → ℕ) (terminals : List Vertex) (old : TerminalBalls) (l : Labels)
    (radii : List ℕ) → AreKept old → ((v : ℕ) → labels_number l v ≡ labels_number old.labels v)
    → ((place : ℕ) → slice_index radii place ≤ slice_index old.radii place)
    → ((v : ℕ) → IsOpen old.labels v → (place : ℕ) → slice_index radii place ≤ labels_number old.labels v)
    → AreGrowing s pieces over terminals old → AreBalls s pieces over terminals (balls_of (with_labels old l radii))
ended s pieces over terminals old l radii kept numbers falls ends growing =
    let new = with_labels old l radii in
    let shrink : Shrink (balls_of old) (balls_of new) = record {
      radii = falls;
      numbers = λ v. omega (arith, numbers v);
      owned = λ v low. refl;
    } in
    record {
      own = λ place v is. own_share (balls_of new) place v.0 (own_on (balls_of old) (balls_of new) shrink place v.0 (growing.own place v is));
      steps = λ p k a b weighs connects within. ⊎_elim
          (λ held. absurd (omega (arith, within, ends a held (slice_index old.owners.items a), numbers a)))
          (λ met. relaxed_on s pieces over (balls_of old) (balls_of new) shrink kept.small a (numbers a, refl) met p k b weighs connects)
          (growing.steps a (omega (arith, within, numbers a, falls (slice_index old.owners.items a))));
    }
