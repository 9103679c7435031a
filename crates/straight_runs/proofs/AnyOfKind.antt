-- Whether some of the pieces of runs pass a test, by how many do.
use Rattle.std.proofs.Common.{◌≡◌, ℕ, ◌+◌, ◌<◌, ◌≤◌, ◌||◌, cond, Bool, true, false, List, [], ◌∷◌, length, get_or, take, refl, sym, ◌∙◌, ap, ⊎_elim, arith}
use Rattle.std.specs.List.{count_by, list_any}
use Rattle.std.proofs.lemmas.Bool.{cases_Bool}
use Rattle.std.proofs.lemmas.List.{get_or_default, take_all, take_more}
use Rattle.std.proofs.lemmas.List.Folds.{Any-from_list_any, list_any-append, list_any_at}
use Rattle.std.proofs.lemmas.List.Sums.{sum_by-cons}
use Rattle.grid_base.specs.declared.piece.Piece.{Piece}
use Rattle.grid_base.specs.declared.size.Size.{Size}
use Rattle.straight_runs.specs.declared.run.Run.{Run}
use Rattle.straight_runs.specs.Runs.{pieces_of, run_pieces}
use Rattle.straight_runs.specs.Touching.{no_run}
use Rattle.straight_runs.proofs.Merges.{in_some_run, of_run, pieces_of-push}

abbrev as_number : Bool → ℕ
as_number b = cond b 1 0

some_counted : (p : Piece → Bool) (xs : List Piece) → 0 < count_by p xs → list_any p xs ≡ true
some_counted p [] some = absurd (omega (arith, some))
some_counted p (x ∷ xs) some = ⊎_elim
    (λ (passes : p x ≡ true). ap (λ b. b || list_any p xs) passes)
    (λ (fails : p x ≡ false).
    let first : as_number (p x) ≡ 0 = ap as_number fails in
    ap (λ b. b || list_any p xs) fails ∙ some_counted p xs (omega (arith, some, sum_by-cons (λ y. as_number (p y)) x xs, first)))
    (cases_Bool (p x))

none_counted : (p : Piece → Bool) (xs : List Piece) → count_by p xs ≡ 0 → list_any p xs ≡ false
none_counted p [] none = refl
none_counted p (x ∷ xs) none = ⊎_elim
    (λ (passes : p x ≡ true).
    let first : as_number (p x) ≡ 1 = ap as_number passes in
    absurd (omega (arith, none, sum_by-cons (λ y. as_number (p y)) x xs, first)))
    (λ (fails : p x ≡ false). ap (λ b. b || list_any p xs) fails ∙ none_counted p xs (omega (arith, none, sum_by-cons (λ y. as_number (p y)) x xs)))
    (cases_Bool (p x))

-- one run has some
pub some_of_run : (s : Size) (p : Piece → Bool) (runs : List Run) (i : ℕ) → i < length runs → 0 < count_by p (run_pieces s (get_or runs i no_run)) → list_any p (pieces_of s runs) ≡ true
some_of_run s p runs i within some =
    let run = get_or runs i no_run in
    let found = Any-from_list_any p (run_pieces s run) (some_counted p (run_pieces s run) some) in
    let held = in_some_run s runs found.1 run (i, within, get_or_default runs i run no_run within) (of_run s run found.1 (found.0, found.2, found.3)) in
    list_any_at p (pieces_of s runs) held.0 found.1 held.1 (ap p held.2 ∙ found.4)

-- one run more has none
pub none_more : (s : Size) (p : Piece → Bool) (runs : List Run) (i : ℕ) → i < length runs → list_any p (pieces_of s (take i runs)) ≡ false → count_by p (run_pieces s (get_or runs i no_run)) ≡ 0 → list_any p (pieces_of s (take (i + 1) runs)) ≡ false
none_more s p runs i within before none =
    let run = get_or runs i no_run in
    ap (λ rs. list_any p (pieces_of s rs)) (take_more runs i no_run within) ∙ ap (list_any p) (pieces_of-push s (take i runs) run)
    ∙ list_any-append p (pieces_of s (take i runs)) (run_pieces s run) ∙ ap (λ b. b || list_any p (run_pieces s run)) before ∙ none_counted p (run_pieces s run) none

pub none_of_all : (s : Size) (p : Piece → Bool) (runs : List Run) (i : ℕ) → length runs ≤ i → list_any p (pieces_of s (take i runs)) ≡ false → false ≡ list_any p (pieces_of s runs)
none_of_all s p runs i all none = sym (ap (λ rs. list_any p (pieces_of s rs)) (sym (take_all i runs all)) ∙ none)
