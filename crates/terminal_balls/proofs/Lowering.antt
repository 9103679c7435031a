-- A vertex gets an owner and a lower number, under which it waits.
use Rattle.std.proofs.Common.{◌≡◌, ◌≢◌, ℕ, ◌+◌, ◌<◌, ◌≤◌, ◌⊎◌, List, length, slice_index, slice_set, sym, ◌∙◌, ap, subst, inl, inr, ⊎_elim, arith, get_or-set_other, length-set}
use Rattle.std.specs.Vec.{with_item}
use Rattle.std.proofs.lemmas.Bool.{cases_eq, cases_lt}
use Rattle.std.proofs.lemmas.Grind.{get_or-set_at}
use Rattle.std.proofs.lemmas.List.{get_or_past}
use Rattle.grid_base.specs.declared.vertex.Vertex.{Vertex}
use Rattle.grid_base.specs.declared.size.Size.{Size}
use Rattle.grid_base.specs.Lists.{At}
use Rattle.grid_base.specs.Numbers.{vertices}
use Rattle.label_search.specs.Stamped.{far}
use Rattle.shortest_paths.specs.declared.labels.Labels.{Labels}
use Rattle.shortest_paths.specs.LabelWords.{labels_number}
use Rattle.shortest_paths.specs.LedSearches.{Lowers, IsOpen}
use Rattle.steiner_tables.specs.Masks.{few_terminals}
use Rattle.terminal_balls.specs.declared.terminal_balls.TerminalBalls.{TerminalBalls}
use Rattle.terminal_balls.specs.Balls.{balls_of, widest}
use Rattle.terminal_balls.specs.Growths.{AreKept, AreBegun, GrowOn, IsSame}

-- an entry below a bound is put among such
pub put_below : (xs : List ℕ) (i x bound v : ℕ) → x < bound → slice_index xs v < bound → slice_index (slice_set xs i x) v < bound
put_below xs i x bound v low before = ⊎_elim
    (λ here. ⊎_elim
    (λ inside. omega (arith, get_or-set_at xs i v x 0 here inside, low))
    (λ past. omega (arith, get_or_past (slice_set xs i x) v 0 (omega (arith, here, past, length-set xs i x)), low))
    (cases_lt i (length xs)))
    (λ other. omega (arith, get_or-set_other xs i v x 0 other, before))
    (cases_eq v i)

-- the balls with other labels, where a vertex has an owner
abbrev pub owned_by : TerminalBalls → Labels → List ℕ → ℕ → ℕ → TerminalBalls
owned_by old l radii to owner = record { labels = l; owners = with_item old.owners to owner; radii = radii; sums = old.sums }

pub lowered_kept : (old : TerminalBalls) (l : Labels) (radii : List ℕ) (to owner number : ℕ) → AreKept old
    → ((place : ℕ) → slice_index radii place ≤ widest) → owner < few_terminals → Lowers old.labels l to number number
    → AreKept (owned_by old l radii to owner)
lowered_kept old l radii to owner number kept small few lowers = record {
  owners = length-set old.owners.items to owner ∙ (kept.owners ∙ ap (λ (s : Size). vertices s) (sym lowers.go_on.size));
  few = λ v. put_below old.owners.items to owner few_terminals v few (kept.few v);
  small = small;
  keys = λ v key held. ⊎_elim
      (λ here. ap (λ u. labels_number l u) here.0 ∙ (lowers.number ∙ sym here.1))
      (λ other. lowers.others v other.0 ∙ kept.keys v key other.1)
      (lowers.only v key held);
}

lowered_waits : (old new : Labels) (to number : ℕ) → Lowers old new to number number → (v : ℕ) → IsOpen old v → IsOpen new v
lowered_waits old new to number lowers v held = ⊎_elim
    (λ here. subst (IsOpen new) (sym here) (number, lowers.placed))
    (λ other. (held.0, lowers.kept v held.0 other held.1))
    (cases_eq v to)

lowered_same : (old : TerminalBalls) (l : Labels) (radii : List ℕ) (to owner number : ℕ) → Lowers old.labels l to number number
    → (v : ℕ) → v ≢ to → IsSame (balls_of old) (balls_of (owned_by old l radii to owner)) v
lowered_same old l radii to owner number lowers v other = (lowers.others v other, get_or-set_other old.owners.items to v owner 0 other)

pub lowered_on : (old : TerminalBalls) (l : Labels) (to owner number : ℕ) → Lowers old.labels l to number number
    → to < length old.owners.items → number < labels_number old.labels to
    → ((far ≤ labels_number old.labels to) ⊎ (slice_index old.owners.items to ≡ owner))
    → GrowOn old (owned_by old l old.radii to owner)
lowered_on old l to owner number lowers inside less free =
    let new = owned_by old l old.radii to owner in
    let same = lowered_same old l old.radii to owner number lowers in
    record {
      size = lowers.go_on.size;
      shrink = record {
        radii = λ place. omega arith;
        numbers = λ v. ⊎_elim
            (λ here. let at = ap (λ u. labels_number l u) here in let was = ap (λ u. labels_number old.labels u) here in
            omega (arith, at, was, lowers.number, less))
            (λ other. omega (arith, lowers.others v other))
            (cases_eq v to);
        owned = λ v low. ⊎_elim
            (λ here. let was = ap (λ u. labels_number old.labels u) here in
            get_or-set_at old.owners.items to v owner 0 here inside ∙ ⊎_elim
            (λ none. absurd (omega (arith, low, was, none)))
            (λ its. sym (ap (λ u. slice_index old.owners.items u) here ∙ its))
            free)
            (λ other. (same v other).1)
            (cases_eq v to);
      };
      changed = λ v. ⊎_elim
          (λ here. inr (subst (IsOpen l) (sym here) (number, lowers.placed)))
          (λ other. inl (same v other))
          (cases_eq v to);
      waits = lowered_waits old.labels l to number lowers;
    }

-- a vertex with no greater number than the offer is another one
pub lowered_past : (old : TerminalBalls) (l : Labels) (radii : List ℕ) (to owner number : ℕ) → Lowers old.labels l to number number
    → number < labels_number old.labels to → (v : ℕ) → labels_number old.labels v ≤ number
    → IsSame (balls_of old) (balls_of (owned_by old l radii to owner)) v
lowered_past old l radii to owner number lowers less v low = ⊎_elim
    (λ here. let was = ap (λ u. labels_number old.labels u) here in absurd (omega (arith, was, low, less)))
    (λ other. lowered_same old l radii to owner number lowers v other)
    (cases_eq v to)

-- one more terminal has begun
pub begun_more : (terminals : List Vertex) (n to r : ℕ) (old : TerminalBalls) (l : Labels) → AreBegun terminals n old
    → ((v : Vertex) → At terminals n v → v.0 ≡ to) → 0 < labels_number old.labels to → to < length old.owners.items
    → Lowers old.labels l to 0 0 → AreBegun terminals (n + 1) (owned_by old l (slice_set old.radii n r) to n)
begun_more terminals n to r old l begun its some inside lowers =
    let new = owned_by old l (slice_set old.radii n r) to n in
    record {
      own = λ place v low at. ⊎_elim
          (λ here.
          let is : v.0 ≡ to = its v (subst (λ i. At terminals i v) here at) in
          inr (
            get_or-set_at old.owners.items to v.0 n 0 is inside ∙ sym here,
            ap (λ u. labels_number l u) is ∙ lowers.number,
          ))
          (λ other. ⊎_elim
          (λ none. inl (get_or-set_other old.radii n place r 0 other ∙ none))
          (λ centre.
          let apart : v.0 ≢ to = (λ same. let was = ap (λ u. labels_number old.labels u) same in omega (arith, was, centre.1, some)) in
          let still = lowered_same old l (slice_set old.radii n r) to n 0 lowers v.0 apart in
          inr (still.1 ∙ centre.0, still.0 ∙ centre.1))
          (begun.own place v (omega (arith, low, other)) at))
          (cases_eq place n);
      none = λ place past. get_or-set_other old.radii n place r 0 (λ same. omega (arith, same, past)) ∙ begun.none place (omega (arith, past));
      waits = λ v low. ⊎_elim
          (λ here. subst (IsOpen l) (sym here) (0, lowers.placed))
          (λ other. lowered_waits old.labels l to 0 lowers v (begun.waits v (omega (arith, low, lowers.others v other))))
          (cases_eq v to);
    }
