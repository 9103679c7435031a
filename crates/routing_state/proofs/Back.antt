-- Lists in which an element is put back.
use Rattle.std.proofs.Common.{◌≡◌, ℕ, zero, suc, List, [], ◌∷◌, get_or, refl, sym, ◌∙◌, ap, subst, arith, ⊎_elim, Option, Some, None}
use Rattle.std.specs.Prelude.{slice_set, unwrap_or}
use Rattle.std.proofs.lemmas.Bool.{cases_eq}
use Rattle.std.proofs.lemmas.List.{get_or-set_same, get_or-set_other, length-set}
use Rattle.std.proofs.lemmas.Option.{get_or_from_slice_get, slice_get-get_or, slice_get_within}
use Rattle.grid_base.specs.Lists.{At}

-- an element that is exchanged and put back
pub put_back_same : {X : Type 0} (xs : List X) (k : ℕ) (x y : X) → get_or xs k y ≡ y → slice_set (slice_set xs k x) k y ≡ xs
put_back_same [] k x y is = refl
put_back_same (z ∷ xs) zero x y is = ap (λ us. us ∷ xs) (sym is)
put_back_same (z ∷ xs) (suc k) x y is = ap (λ us. z ∷ us) (put_back_same xs k x y is)

-- what holds of all that is saved still does when what it holds of is saved too
pub saved_more : {X : Type 0} (P : X → Type 0) (saved : List (Option X)) (k : ℕ) (o : Option X) → ((j : ℕ) (x : X) → At saved j (Some x) → P x) → ((x : X) → o ≡ Some x → P x)
    → (j : ℕ) (x : X) → At (slice_set saved k o) j (Some x) → P x
saved_more {X = X} P saved k o all new j x at =
    let within = slice_get_within (slice_set saved k o) j (Some x) at in
    let is : get_or (slice_set saved k o) j o ≡ Some x = get_or_from_slice_get (slice_set saved k o) j (Some x) o at in
    ⊎_elim
    (λ (here : k ≡ j). new x (sym (get_or-set_same saved k o o (omega (arith, within, here, length-set saved k o))) ∙ subst (λ (i : ℕ). get_or (slice_set saved k o) i o ≡ Some x) (sym here) is))
    (λ (other : k ≡ j → ⊥).
    let was : get_or saved j o ≡ Some x = sym (get_or-set_other saved k j o o (λ same. other (sym same))) ∙ is in
    all j x (slice_get-get_or saved j o (omega (arith, within, length-set saved k o)) ∙ ap (λ (s : Option X). Some s) was))
    (cases_eq k j)

-- what holds of what is saved, and of another, holds of what is saved or else the other
pub or_saved : {X : Type 0} (P : X → Type 0) (o : Option X) (x : X) → ((y : X) → o ≡ Some y → P y) → P x → P (unwrap_or o x)
or_saved P (Some y) x some other = some y refl
or_saved P None x some other = other
