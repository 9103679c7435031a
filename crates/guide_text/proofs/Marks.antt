-- Marks of tiles, kind after kind.
use Rattle.std.proofs.Common.{◌≡◌, ℕ, ◌+◌, ◌<◌, ◌≤◌, ◌⊎◌, inl, inr, Bool, true, false, List, length, get_or, set, Contains, refl, sym, ap, subst, ◌∙◌, arith, ⊎_elim}
use Rattle.std.specs.Cmp.{booleans_Decides}
use Rattle.std.specs.Prelude.{IsTrue, not, ◌↔◌}
use Rattle.std.specs.List.{IsAnyAnswer}
use Rattle.std.specs.List.Sorted.{IsStrictlyIncreasing}
use Rattle.std.proofs.Math.Bool.{beq}
use Rattle.std.proofs.lemmas.Bool.{cases_lt, not-true, not_from_false}
use Rattle.std.proofs.lemmas.List.{get_or_default, get_or-set_same, get_or-set_other, length-set}
use Rattle.std.proofs.lemmas.List.Elements.{Contains-get_or, contains_decides}
use Rattle.guide_text.specs.Marking.{AreMarked, IsInSpan}
use Rattle.guide_text.proofs.Found.{rises}
use Rattle.guide_text.proofs.Runs.{not_both}

-- where no tile is of a kind, nothing is to be marked
pub none_marked : (tiles : List ℕ) (Kind : ℕ → Type 0) (marks : List Bool) → ((v : ℕ) → ¬ Kind v) → AreMarked tiles Kind marks marks
none_marked tiles Kind marks none = record {
  long = refl;
  listed = λ v kind. absurd (none v kind);
  marked = λ at within. (λ is. inl is, λ either. ⊎_elim (λ is. is) (λ kind. absurd (none _ kind)) either);
}

-- marks of one kind, and then of another one, are those of both
pub marked_more : (tiles : List ℕ) (One Other Both : ℕ → Type 0) (old mid new : List Bool) → ((v : ℕ) → Both v ↔ (One v ⊎ Other v)) → AreMarked tiles One old mid → AreMarked tiles Other mid new → AreMarked tiles Both old new
marked_more tiles One Other Both old mid new both one other = record {
  long = other.long ∙ one.long;
  listed = λ v kind. ⊎_elim (one.listed v) (other.listed v) ((both v).0 kind);
  marked = λ at within. (
    λ is. ⊎_elim
        (λ before. ⊎_elim (λ first. inl first) (λ kind. inr ((both _).1 (inl kind))) ((one.marked at within).0 before))
        (λ kind. inr ((both _).1 (inr kind)))
        ((other.marked at within).0 is),
    λ either. ⊎_elim
        (λ first. (other.marked at within).1 (inl ((one.marked at within).1 (inl first))))
        (λ kind. ⊎_elim (λ k. (other.marked at within).1 (inl ((one.marked at within).1 (inr k)))) (λ k. (other.marked at within).1 (inr k)) ((both _).0 kind))
        either,
  );
}

-- marks of a kind are those of each kind of the same tiles
pub marked_same : (tiles : List ℕ) (Kind Same : ℕ → Type 0) (old new : List Bool) → ((v : ℕ) → Same v ↔ Kind v) → AreMarked tiles Kind old new → AreMarked tiles Same old new
marked_same tiles Kind Same old new same are = record {
  long = are.long;
  listed = λ v kind. are.listed v ((same v).0 kind);
  marked = λ at within. (
    λ is. ⊎_elim (λ first. inl first) (λ kind. inr ((same _).1 kind)) ((are.marked at within).0 is),
    λ either. (are.marked at within).1 (⊎_elim (λ first. inl first) (λ kind. inr ((same _).0 kind)) either),
  );
}

-- one number stands at one place of a rising list
one_place : (tiles : List ℕ) (i j : ℕ) → IsStrictlyIncreasing tiles → i < length tiles → j < length tiles → get_or tiles i 0 ≡ get_or tiles j 0 → i ≡ j
one_place tiles i j up in_i in_j same = ⊎_elim
    (λ (less : i < j). absurd (omega (arith, same, rises tiles i j up less in_j)))
    (λ (le : j ≤ i). ⊎_elim (λ (more : j < i). absurd (omega (arith, same, rises tiles j i up more in_i))) (λ (ge : i ≤ j). omega (arith, le, ge)) (cases_lt j i))
    (cases_lt i j)

-- the mark of one tile
pub marked_one : (tiles : List ℕ) (marks : List Bool) (at v : ℕ) → IsStrictlyIncreasing tiles → length marks ≡ length tiles → at < length tiles → get_or tiles at 0 ≡ v → AreMarked tiles (λ w. w ≡ v) marks (set marks at true)
marked_one tiles marks at v up long within is =
    let inside : at < length marks = omega (arith, long, within) in
    let here : get_or (set marks at true) at false ≡ true = get_or-set_same marks at true false inside in
    record {
      long = length-set marks at true;
      listed = λ w same. subst (Contains tiles) (is ∙ sym same) (Contains-get_or tiles at 0 within);
      marked = λ k below. (
        λ set_now. ⊎_elim
            (λ (less : k < at). inl (sym (get_or-set_other marks at k true false (λ same. omega (arith, less, same))) ∙ set_now))
            (λ (le : at ≤ k). ⊎_elim
            (λ (more : at < k). inl (sym (get_or-set_other marks at k true false (λ same. omega (arith, more, same))) ∙ set_now))
            (λ (ge : k ≤ at). let same : k ≡ at = omega (arith, le, ge) in inr (ap (λ j. get_or tiles j 0) same ∙ is))
            (cases_lt at k))
            (cases_lt k at),
        λ either. ⊎_elim
            (λ before. kept k before)
            (λ kind. let same : k ≡ at = one_place tiles k at up below within (kind ∙ sym is) in ap (λ j. get_or (set marks at true) j false) same ∙ here)
            either,
      );
    }
  where
    kept : (k : ℕ) → get_or marks k false ≡ true → get_or (set marks at true) k false ≡ true
    kept k before = ⊎_elim
        (λ (less : k < at). get_or-set_other marks at k true false (λ same. omega (arith, less, same)) ∙ before)
        (λ (le : at ≤ k). ⊎_elim
        (λ (more : at < k). get_or-set_other marks at k true false (λ same. omega (arith, more, same)) ∙ before)
        (λ (ge : k ≤ at). let same : k ≡ at = omega (arith, le, ge) in ap (λ j. get_or (set marks at true) j false) same ∙ get_or-set_same marks at true false (omega (arith, long, within)))
        (cases_lt at k))
        (cases_lt k at)

-- a number more
pub number_marked : (tiles : List ℕ) (old marks : List Bool) (first number at : ℕ) → IsStrictlyIncreasing tiles → length old ≡ length tiles → first ≤ number → at < length tiles → get_or tiles at 0 ≡ number
    → AreMarked tiles (IsInSpan first number) old marks → AreMarked tiles (IsInSpan first (number + 1)) old (set marks at true)
number_marked tiles old marks first number at up long order within is so_far =
    marked_more tiles (IsInSpan first number) (λ w. w ≡ number) (IsInSpan first (number + 1)) old marks (set marks at true)
    (λ v. (
      λ from. ⊎_elim (λ (less : v < number). inl (from.0, less)) (λ (le : number ≤ v). inr (omega (arith, le, from.1))) (cases_lt v number),
      λ either. ⊎_elim (λ from. (from.0, omega (arith, from.1))) (λ same. (omega (arith, same, order), omega (arith, same))) either,
    ))
    so_far (marked_one tiles marks at number up (so_far.long ∙ long) within is)

-- a test that some mark is missing
pub all_marked : (marks : List Bool) (some : Bool) → IsAnyAnswer (λ y t. beq y false ≡ t) marks some → IsTrue (not some) ↔ ((at : ℕ) → at < length marks → IsTrue (get_or marks at false))
all_marked marks some answer =
    let missing = contains_decides beq booleans_Decides marks false some answer in (
      λ none at within. is_set (get_or marks at false) (λ off. not_both some (missing.1 (at, within, λ d. get_or_default marks at d false within ∙ off)) (not-true some none)),
      λ all. not_from_false some (is_not some (λ yes. let off = missing.0 yes in not_both (get_or marks off.0 false) (all off.0 off.1) (off.2 false))),
    )
  where
    is_set : (b : Bool) → ¬ (b ≡ false) → b ≡ true
    is_set true on = refl
    is_set false on = absurd (on refl)

    is_not : (b : Bool) → ¬ (b ≡ true) → b ≡ false
    is_not true off = absurd (off refl)
    is_not false off = refl
