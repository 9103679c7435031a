-- The first element of which something is true.
use Rattle.std.proofs.Common.{◌≡◌, ℕ, zero, suc, ◌+◌, ◌<◌, Bool, true, false, List, [], ◌∷◌, length, get_or, None, Some, refl, sym, ◌∙◌, ⊎_elim, arith, lt-ltb, le-ltb}
use Rattle.std.specs.Prelude.{pos}
use Rattle.std.specs.List.{position, position_from}
use Rattle.edit_text.specs.declared.edit.Pin.{Pin}
use Rattle.std.proofs.lemmas.Bool.{cases_Bool}
use Rattle.std.proofs.lemmas.Iterator.Adapters.{position_from-zero}
use Rattle.std.proofs.lemmas.Option.{get_or_from_slice_get, slice_get-get_or}
use Rattle.std.proofs.lemmas.List.Sums.{position_or_len_is}

-- stands where no pin is read
abbrev pub no_pin : Pin
no_pin = record { x = pos 0; y = pos 0; layer = pos 0 }

pub position-found : {X : Type 0} (p : X → Bool) (xs : List X) (i : ℕ) (d : X) → i < length xs → p (get_or xs i d) ≡ true
    → ((k : ℕ) → k < i → p (get_or xs k d) ≡ false) → position p xs ≡ Some i
position-found p xs i d within here before =
    let first = position_or_len_is p xs i d (omega (arith, within)) before (λ _. here) in
    rw (first, lt-ltb i (length xs) within) refl

pub position-none : {X : Type 0} (p : X → Bool) (xs : List X) (d : X) → ((k : ℕ) → k < length xs → p (get_or xs k d) ≡ false) → position p xs ≡ None
position-none p xs d none =
    let past = position_or_len_is p xs (length xs) d (omega arith) none (λ below. absurd (omega (arith, below))) in
    rw (past, le-ltb (length xs) (length xs) (omega arith)) refl

-- what is read inside a list is read with any default
pub same_read : {X : Type 0} (xs : List X) (i : ℕ) (d e : X) → i < length xs → get_or xs i d ≡ get_or xs i e
same_read xs i d e within = get_or_from_slice_get xs i (get_or xs i e) d (slice_get-get_or xs i e within)

later : {X : Type 0} (p : X → Bool) (x : X) (xs : List X) → p x ≡ false → ((k : ℕ) (d : X) → k < length xs → p (get_or xs k d) ≡ false) → (k : ℕ) (d : X) → k < length (x ∷ xs)
    → p (get_or (x ∷ xs) k d) ≡ false
later p x xs off rest zero d below = off
later p x xs off rest (suc k) d below = rest k d (omega (arith, below))

none_from : {X : Type 0} (p : X → Bool) (i : ℕ) (xs : List X) → position_from p i xs ≡ None → (k : ℕ) (d : X) → k < length xs → p (get_or xs k d) ≡ false
none_from p i [] none k d below = absurd (omega (arith, below))
none_from p i (x ∷ xs) none k d below =
    ⊎_elim
    (λ (yes : p x ≡ true). absurd (let found = rw yes at none in cc))
    (λ (off : p x ≡ false). later p x xs off (none_from p (i + 1) xs (rw off at none)) k d below)
    (cases_Bool (p x))

-- where there is none, it is true of none
pub none-at : {X : Type 0} (p : X → Bool) (xs : List X) → position p xs ≡ None → (k : ℕ) (d : X) → k < length xs → p (get_or xs k d) ≡ false
none-at p xs none = none_from p 0 xs (sym (position_from-zero p xs) ∙ none)
