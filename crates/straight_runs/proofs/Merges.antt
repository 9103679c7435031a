-- Lists of runs in which neighbours are joined one after another.
use Rattle.std.proofs.Common.{◌≡◌, ◌≢◌, ℕ, ◌+◌, ◌-◌, ◌*◌, ◌<◌, ◌≤◌, ◌⊎◌, ◌↔◌, All, List, [], ◌∷◌, ◌++◌, Contains, length, append_assoc, length-append, get_or, take, refl, sym, ◌∙◌, ap, subst, inl, inr, ⊎_elim, arith}
use Rattle.std.specs.List.Sorted.{IsNonDecreasingBy, IsPermutation}
use Rattle.std.proofs.lemmas.Bool.{cases_lt}
use Rattle.std.proofs.lemmas.Grind.{flat_map-append}
use Rattle.std.proofs.lemmas.List.{append-nil, get_or_default, take_all, take_more}
use Rattle.std.proofs.lemmas.List.Elements.{Contains-append_left, Contains-append_right, Contains-append_cases, All-append, All-cons}
use Rattle.std.proofs.lemmas.List.FromFn.{length-map-range_with_len, get_or-map-range_with_len}
use Rattle.std.proofs.lemmas.List.Sorted.{Contains-permutation, IsPermutation-sym, length_permutation}
use Rattle.std.proofs.lemmas.Option.{slice_get_within, get_or_from_slice_get}
use Rattle.grid_base.specs.declared.piece.Piece.{Piece}
use Rattle.grid_base.specs.declared.size.Size.{Size}
use Rattle.grid_base.specs.Lists.{At, HasNoRepeats}
use Rattle.grid_base.specs.Numbers.{IsPiece}
use Rattle.grid_base.proofs.Lists.{At-push_cases, member_from_place, head_or_rest, Contains-rest}
use Rattle.grid_base.proofs.NoRepeats.{HasNoRepeats-push, first_once, rest_once}
use Rattle.straight_runs.specs.declared.run.Run.{Run}
use Rattle.straight_runs.specs.Lines.{rise, piece_towards}
use Rattle.straight_runs.specs.Merging.{AreApart, AreMerged, Continues, IsBehind, IsPast}
use Rattle.straight_runs.specs.Runs.{IsStraightRun, run_piece, run_pieces, pieces_of, run_number}
use Rattle.straight_runs.proofs.Lines.{run_past, apart_by_number, piece_number, piece_number-run}

-- the piece is one of the run
abbrev pub IsOfRun : Size → Run → Piece → Type 0
IsOfRun s run p = (i : ℕ) × (i < run.count) × (p ≡ run_piece s run i)

pub of_run : (s : Size) (run : Run) (p : Piece) → Contains (run_pieces s run) p → IsOfRun s run p
of_run s run p (i, within, is) =
    let below : i < run.count = omega (arith, within, length-map-range_with_len (run_piece s run) 0 run.count) in
    (i, below, sym is ∙ get_or-map-range_with_len (run_piece s run) 0 run.count i i p below (omega arith))

pub in_run : (s : Size) (run : Run) (p : Piece) → IsOfRun s run p → Contains (run_pieces s run) p
in_run s run p (i, below, is) =
    (i, omega (arith, below, length-map-range_with_len (run_piece s run) 0 run.count), get_or-map-range_with_len (run_piece s run) 0 run.count i i p below (omega arith) ∙ sym is)

-- one run more
pub pieces_of-push : (s : Size) (runs : List Run) (run : Run) → pieces_of s (runs ++ run ∷ []) ≡ pieces_of s runs ++ run_pieces s run
pieces_of-push s runs run = flat_map-append (run_pieces s) runs (run ∷ []) ∙ ap (λ ps. pieces_of s runs ++ ps) (append-nil (run_pieces s run))

-- its pieces and those of the others
pub pushed_pieces : (s : Size) (runs : List Run) (run : Run) (p : Piece) → Contains (pieces_of s (runs ++ run ∷ [])) p → Contains (pieces_of s runs) p ⊎ IsOfRun s run p
pushed_pieces s runs run p held =
    ⊎_elim (λ old. inl old) (λ new. inr (of_run s run p new))
    (Contains-append_cases (pieces_of s runs) (run_pieces s run) p (subst (λ ps. Contains ps p) (pieces_of-push s runs run) held))

pub push_pieces : (s : Size) (runs : List Run) (run : Run) (p : Piece) → Contains (pieces_of s runs) p ⊎ IsOfRun s run p → Contains (pieces_of s (runs ++ run ∷ [])) p
push_pieces s runs run p held =
    subst (λ ps. Contains ps p) (sym (pieces_of-push s runs run))
    (⊎_elim (λ old. Contains-append_left (pieces_of s runs) (run_pieces s run) p old) (λ new. Contains-append_right (pieces_of s runs) (run_pieces s run) p (in_run s run p new)) held)

-- a run has no piece twice
run_once : (s : Size) (run : Run) → HasNoRepeats (run_pieces s run)
run_once s run i j p at_i at_j =
    let place : (k : ℕ) → At (run_pieces s run) k p → piece_number s p ≡ run_number s run + k =
    λ k at.
    let below : k < run.count = omega (arith, slice_get_within (run_pieces s run) k p at, length-map-range_with_len (run_piece s run) 0 run.count) in
    ap (piece_number s) (sym (get_or_from_slice_get (run_pieces s run) k p p at) ∙ get_or-map-range_with_len (run_piece s run) 0 run.count k k p below (omega arith))
    ∙ piece_number-run s run k in
    omega (arith, place i at_i, place j at_j)

only_one : {X : Type 0} (x y : X) → Contains (y ∷ []) x → x ≡ y
only_one x y held = ⊎_elim (λ is. is) (λ none. absurd (omega (arith, none.1))) (head_or_rest y [] x held)

-- two lists without repeats, one behind the other, that have nothing in common
pub HasNoRepeats-append : {X : Type 0} (xs ys : List X) → HasNoRepeats xs → HasNoRepeats ys → ((x : X) → Contains xs x → Contains ys x → ⊥) → HasNoRepeats (xs ++ ys)
HasNoRepeats-append xs [] once again apart = subst (λ zs. HasNoRepeats zs) (sym (append-nil xs)) once
HasNoRepeats-append xs (y ∷ ys) once again apart =
    subst (λ zs. HasNoRepeats zs) (append_assoc xs (y ∷ []) ys)
    (HasNoRepeats-append (xs ++ y ∷ []) ys
    (HasNoRepeats-push xs y once (λ i x at same. apart x (member_from_place xs i x at) (subst (λ z. Contains (y ∷ ys) z) (sym same) (0, omega arith, refl))))
    (rest_once y ys again)
    (λ x left right. ⊎_elim
    (λ old. apart x old (Contains-rest y ys x right))
    (λ last. first_once y ys again (subst (λ z. Contains ys z) (only_one x y last) right))
    (Contains-append_cases xs (y ∷ []) x left)))

-- a piece of a run that goes on behind another is one of its line
behind_piece : (s : Size) (run next : Run) (apart j : ℕ) → IsBehind s run next apart → run_piece s next j ≡ run_piece s run (apart + j)
behind_piece s run next apart j behind =
    ap (λ d. piece_towards d (next.first.0 + j * rise d s)) behind.0 ∙ ap (piece_towards run.direction) (omega (arith, behind.1))

-- the run with so many pieces in place of its own
abbrev pub with_count : Run → ℕ → Run
with_count run count = record { direction = run.direction; first = run.first; count = count }

together : (s : Size) (run next : Run) (count : ℕ) → Continues s run next count → (p : Piece) → IsOfRun s (with_count run count) p → IsOfRun s run p ⊎ IsOfRun s next p
together s run next count on p (i, below, is) =
    ⊎_elim
    (λ (early : i < run.count). inl (i, early, is))
    (λ (late : run.count ≤ i).
    let j = i - on.apart in
    let at : i ≡ on.apart + j = omega (arith, late, on.near) in
    let room : j < next.count = omega (arith, below, late, on.near, on.together) in
    inr (j, room, is ∙ ap (run_piece s run) at ∙ sym (behind_piece s run next on.apart j on.behind)))
    (cases_lt i run.count)

apart : (s : Size) (run next : Run) (count : ℕ) → Continues s run next count → (p : Piece) → IsOfRun s run p ⊎ IsOfRun s next p → IsOfRun s (with_count run count) p
apart s run next count on p either =
    ⊎_elim
    (λ one. (one.0, omega (arith, one.1, on.together), one.2))
    (λ two. (on.apart + two.0, omega (arith, two.1, on.together), two.2 ∙ behind_piece s run next on.apart two.0 on.behind))
    either

of_grid : (s : Size) (run : Run) → IsStraightRun s run → (p : Piece) → IsOfRun s run p → IsPiece s p
of_grid s run is p one = subst (IsPiece s) (sym one.2) (is.each one.0 one.1)

run_together : (s : Size) (run next : Run) (count : ℕ) → IsStraightRun s run → IsStraightRun s next → Continues s run next count → IsStraightRun s (with_count run count)
run_together s run next count one two on = record {
  some = omega (arith, one.some, on.together);
  each = λ i below. ⊎_elim (of_grid s run one (run_piece s run i)) (of_grid s next two (run_piece s run i)) (together s run next count on (run_piece s run i) (i, below, refl));
}

-- each run ends before the later ones begin, when all pieces are counted line by line, and a piece at least is between
abbrev pub AreSpaced : Size → List Run → Type 0
AreSpaced s runs = (i j : ℕ) (run next : Run) → i < j → At runs i run → At runs j next → run_number s run + run.count < run_number s next

-- so do these before another one
abbrev pub AreSpacedFrom : Size → List Run → Run → Type 0
AreSpacedFrom s runs next = (i : ℕ) (run : Run) → At runs i run → run_number s run + run.count < run_number s next

-- so many of the sorted runs are joined: some are kept, and the last may still go on
pub record IsMerging (s : Size) (sorted : List Run) (i : ℕ) (kept : List Run) (last : Run) : Type 0 where
  pub runs : All (IsStraightRun s) kept
  pub run : IsStraightRun s last
  pub same : (p : Piece) → (Contains (pieces_of s kept) p ⊎ IsOfRun s last p) ↔ Contains (pieces_of s (take i sorted)) p
  pub distinct : HasNoRepeats (pieces_of s kept)
  pub before : (p : Piece) → Contains (pieces_of s kept) p → piece_number s p < run_number s last
  pub spaced : AreSpaced s kept
  pub last_spaced : AreSpacedFrom s kept last
  pub later : (d : Run) → run_number s last ≤ run_number s (get_or sorted (i - 1) d)
  pub fewer : length kept + 1 ≤ i

-- the runs with one more
abbrev one_more : Size → List Run → ℕ → Run → Piece → Type 0
one_more s sorted i next p = Contains (pieces_of s (take i sorted)) p ⊎ IsOfRun s next p

to_more : (s : Size) (sorted : List Run) (i : ℕ) (next : Run) → i < length sorted → next ≡ get_or sorted i next → (p : Piece) → one_more s sorted i next p → Contains (pieces_of s (take (i + 1) sorted)) p
to_more s sorted i next within is p held =
    subst (λ runs. Contains (pieces_of s runs) p) (sym (take_more sorted i next within ∙ ap (λ x. take i sorted ++ x ∷ []) (sym is))) (push_pieces s (take i sorted) next p held)

from_more : (s : Size) (sorted : List Run) (i : ℕ) (next : Run) → i < length sorted → next ≡ get_or sorted i next → (p : Piece) → Contains (pieces_of s (take (i + 1) sorted)) p → one_more s sorted i next p
from_more s sorted i next within is p held =
    pushed_pieces s (take i sorted) next p (subst (λ runs. Contains (pieces_of s runs) p) (take_more sorted i next within ∙ ap (λ x. take i sorted ++ x ∷ []) (sym is)) held)

-- a later run is counted no earlier than the last
not_before : (s : Size) (sorted kept : List Run) (i : ℕ) (last next : Run) → IsNonDecreasingBy (run_number s) sorted → i < length sorted → next ≡ get_or sorted i next → IsMerging s sorted i kept last → (d : Run) → run_number s last ≤ run_number s next
not_before s sorted kept i last next up within is merging d =
    let step : run_number s (get_or sorted (i - 1) next) ≤ run_number s (get_or sorted i next) = up (i - 1) i next (omega arith) within in
    omega (arith, merging.later next, step, ap (run_number s) is)

at_next : (s : Size) (sorted : List Run) (i : ℕ) (next d : Run) → i < length sorted → next ≡ get_or sorted i next → run_number s next ≡ run_number s (get_or sorted (i + 1 - 1) d)
at_next s sorted i next d within is =
    let back : i ≡ i + 1 - 1 = omega arith in
    ap (run_number s) (is ∙ get_or_default sorted i next d within ∙ ap (λ n. get_or sorted n d) back)

-- a run that goes on with the last
pub goes_on : (s : Size) (sorted kept : List Run) (i count : ℕ) (last next : Run) → IsNonDecreasingBy (run_number s) sorted → IsStraightRun s next → i < length sorted → next ≡ get_or sorted i next → IsMerging s sorted i kept last → Continues s last next count → IsMerging s sorted (i + 1) kept (with_count last count)
goes_on s sorted kept i count last next up is_run within is merging on = record {
  runs = merging.runs;
  run = run_together s last next count merging.run is_run on;
  same = λ p. (
    λ held. to_more s sorted i next within is p (⊎_elim
        (λ old. inl ((merging.same p).0 (inl old)))
        (λ new. ⊎_elim (λ one. inl ((merging.same p).0 (inr one))) (λ two. inr two) (together s last next count on p new))
        held),
    λ held. ⊎_elim
        (λ old. ⊎_elim (λ at_kept. inl at_kept) (λ at_last. inr (apart s last next count on p (inl at_last))) ((merging.same p).1 old))
        (λ new. inr (apart s last next count on p (inr new)))
        (from_more s sorted i next within is p held),
  );
  distinct = merging.distinct;
  before = merging.before;
  spaced = merging.spaced;
  last_spaced = merging.last_spaced;
  later = λ d. omega (arith, not_before s sorted kept i last next up within is merging d, at_next s sorted i next d within is);
  fewer = omega (arith, merging.fewer);
}

spaced_pushed : (s : Size) (kept : List Run) (last : Run) → AreSpaced s kept → AreSpacedFrom s kept last → AreSpaced s (kept ++ last ∷ [])
spaced_pushed s kept last spaced before i j run next order at_i at_j = ⊎_elim
    (λ (p : At kept j next). ⊎_elim
    (λ (q : At kept i run). spaced i j run next order q p)
    (λ (q : (i ≡ length kept) × (run ≡ last)). absurd (omega (arith, order, q.0, slice_get_within kept j next p)))
    (At-push_cases kept last run i at_i))
    (λ (p : (j ≡ length kept) × (next ≡ last)). ⊎_elim
    (λ (q : At kept i run). omega (arith, before i run q, ap (run_number s) p.1))
    (λ (q : (i ≡ length kept) × (run ≡ last)). absurd (omega (arith, order, p.0, q.0)))
    (At-push_cases kept last run i at_i))
    (At-push_cases kept last next j at_j)

from_next : (s : Size) (kept : List Run) (last next : Run) → AreSpacedFrom s kept last → run_number s last + last.count < run_number s next → AreSpacedFrom s (kept ++ last ∷ []) next
from_next s kept last next before far i run at = ⊎_elim
    (λ (p : At kept i run). omega (arith, before i run p, far))
    (λ (p : (i ≡ length kept) × (run ≡ last)). subst (λ r. run_number s r + r.count < run_number s next) (sym p.1) far)
    (At-push_cases kept last run i at)

apart_when_spaced : (s : Size) (runs : List Run) → AreSpaced s runs → AreApart s runs
apart_when_spaced s runs spaced i j run next other at_i at_j = ⊎_elim
    (λ (below : i < j). (apart_by_number s run next (spaced i j run next below at_i at_j)).0)
    (λ (above : j ≤ i).
    let more : j < i = omega (arith, above, other) in
    (apart_by_number s next run (spaced j i next run more at_j at_i)).1)
    (cases_lt i j)

-- the last is kept: no piece of it was kept before
kept_once : (s : Size) (sorted kept : List Run) (i : ℕ) (last : Run) → IsMerging s sorted i kept last → HasNoRepeats (pieces_of s (kept ++ last ∷ []))
kept_once s sorted kept i last merging =
    subst (λ ps. HasNoRepeats ps) (sym (pieces_of-push s kept last))
    (HasNoRepeats-append (pieces_of s kept) (run_pieces s last) merging.distinct (run_once s last)
    (λ p old new.
    let one = of_run s last p new in
    let at : piece_number s p ≡ run_number s last + one.0 = ap (piece_number s) one.2 ∙ piece_number-run s last one.0 in
    omega (arith, at, merging.before p old)))

kept_runs : (s : Size) (sorted kept : List Run) (i : ℕ) (last : Run) → IsMerging s sorted i kept last → All (IsStraightRun s) (kept ++ last ∷ [])
kept_runs s sorted kept i last merging = All-append (IsStraightRun s) kept (last ∷ []) merging.runs (All-cons (IsStraightRun s) last [] merging.run (λ k d none. absurd (omega (arith, none))))

-- a run past the last
pub goes_past : (s : Size) (sorted kept : List Run) (i : ℕ) (last next : Run) → IsNonDecreasingBy (run_number s) sorted → IsStraightRun s next → i < length sorted → next ≡ get_or sorted i next → IsMerging s sorted i kept last → IsPast s last next → IsMerging s sorted (i + 1) (kept ++ last ∷ []) next
goes_past s sorted kept i last next up is_run within is merging past =
    let order = not_before s sorted kept i last next up within is merging next in
    let beyond = run_past s last next merging.run is_run past order in
    record {
      runs = kept_runs s sorted kept i last merging;
      run = is_run;
      same = λ p. (
        λ held. to_more s sorted i next within is p (⊎_elim (λ old. inl ((merging.same p).0 (pushed_pieces s kept last p old))) (λ new. inr new) held),
        λ held. ⊎_elim
            (λ old. inl (push_pieces s kept last p ((merging.same p).1 old)))
            (λ new. inr new)
            (from_more s sorted i next within is p held),
      );
      distinct = kept_once s sorted kept i last merging;
      before = λ p held. ⊎_elim
          (λ old. omega (arith, merging.before p old, beyond))
          (λ (one : IsOfRun s last p).
          let at : piece_number s p ≡ run_number s last + one.0 = ap (piece_number s) one.2 ∙ piece_number-run s last one.0 in
          omega (arith, at, one.1, beyond))
          (pushed_pieces s kept last p held);
      spaced = spaced_pushed s kept last merging.spaced merging.last_spaced;
      last_spaced = from_next s kept last next merging.last_spaced beyond;
      later = λ d. omega (arith, at_next s sorted i next d within is);
      fewer = omega (arith, merging.fewer, length-append kept (last ∷ []));
    }

none_spaced : (s : Size) → AreSpaced s []
none_spaced s i j run next order at_i at_j = absurd (omega (arith, slice_get_within [] i run at_i))

none_spaced_from : (s : Size) (next : Run) → AreSpacedFrom s [] next
none_spaced_from s next i run at = absurd (omega (arith, slice_get_within [] i run at))

-- the first run alone
pub first_alone : (s : Size) (sorted : List Run) (first : Run) → All (IsStraightRun s) sorted → 0 < length sorted → first ≡ get_or sorted 0 first → IsMerging s sorted 1 [] first
first_alone s sorted first all some is = record {
  runs = λ k d none. absurd (omega (arith, none));
  run = subst (IsStraightRun s) (sym is) (all 0 first some);
  same = λ p. (
    λ held. to_more s sorted 0 first some is p (⊎_elim (λ none. absurd (omega (arith, none.1))) (λ one. inr one) held),
    λ held. ⊎_elim (λ none. absurd (omega (arith, none.1))) (λ one. inr one) (from_more s sorted 0 first some is p held),
  );
  distinct = λ i j p at_i at_j. absurd (omega (arith, slice_get_within [] i p at_i));
  before = λ p none. absurd (omega (arith, none.1));
  spaced = none_spaced s;
  last_spaced = none_spaced_from s first;
  later = λ d. omega (arith, ap (run_number s) (is ∙ get_or_default sorted 0 first d some));
  fewer = omega arith;
}

-- when all are joined
pub all_merged : (s : Size) (sorted kept : List Run) (i : ℕ) (last : Run) → length sorted ≤ i → i ≤ length sorted → IsMerging s sorted i kept last → AreMerged s sorted (kept ++ last ∷ [])
all_merged s sorted kept i last all within merging =
    let whole : take i sorted ≡ sorted = take_all i sorted all in
    record {
      same = λ p. (
        λ held. subst (λ runs. Contains (pieces_of s runs) p) whole ((merging.same p).0 (pushed_pieces s kept last p held)),
        λ held. push_pieces s kept last p ((merging.same p).1 (subst (λ runs. Contains (pieces_of s runs) p) (sym whole) held)),
      );
      distinct = kept_once s sorted kept i last merging;
      longest = apart_when_spaced s (kept ++ last ∷ []) (spaced_pushed s kept last merging.spaced merging.last_spaced);
      runs = kept_runs s sorted kept i last merging;
      fewer = omega (arith, merging.fewer, within, length-append kept (last ∷ []));
    }

-- a piece of a list of runs is one of a run of the list
pub of_some_run : (s : Size) (runs : List Run) (p : Piece) → Contains (pieces_of s runs) p → (run : Run) × Contains runs run × IsOfRun s run p
of_some_run s [] p held = absurd (omega (arith, held.1))
of_some_run s (r ∷ rs) p held = ⊎_elim
    (λ here. (r, (0, omega arith, refl), of_run s r p here))
    (λ later. let found = of_some_run s rs p later in (found.0, Contains-rest r rs found.0 found.1, found.2))
    (Contains-append_cases (run_pieces s r) (pieces_of s rs) p held)

pub in_some_run : (s : Size) (runs : List Run) (p : Piece) (run : Run) → Contains runs run → IsOfRun s run p → Contains (pieces_of s runs) p
in_some_run s [] p run held one = absurd (omega (arith, held.1))
in_some_run s (r ∷ rs) p run held one = ⊎_elim
    (λ here. Contains-append_left (run_pieces s r) (pieces_of s rs) p (in_run s r p (subst (λ x. IsOfRun s x p) here one)))
    (λ later. Contains-append_right (run_pieces s r) (pieces_of s rs) p (in_some_run s rs p run later one))
    (head_or_rest r rs run held)

moved : (s : Size) (some others : List Run) (p : Piece) → IsPermutation some others → Contains (pieces_of s some) p → Contains (pieces_of s others) p
moved s some others p moves held =
    let found = of_some_run s some p held in
    in_some_run s others p found.0 (Contains-permutation some others found.0 moves found.1) found.2

-- runs in another order
pub merged_in_order : (s : Size) (given sorted kept : List Run) → IsPermutation given sorted → AreMerged s sorted kept → AreMerged s given kept
merged_in_order s given sorted kept moves merged = record {
  same = λ p. (
    λ held. moved s sorted given p (IsPermutation-sym given sorted moves) ((merged.same p).0 held),
    λ held. (merged.same p).1 (moved s given sorted p moves held),
  );
  distinct = merged.distinct;
  longest = merged.longest;
  runs = merged.runs;
  fewer = omega (arith, merged.fewer, length_permutation given sorted moves);
}
