-- A list that is filled from the front.
use Rattle.std.proofs.Common.{◌≡◌, ◌≢◌, ℕ, zero, suc, ◌<◌, ◌⊎◌, List, [], ◌∷◌, Option, Some, None, min, subst, length, get_or, set, take, sym, ◌∙◌, ap, inl, inr, ⊎_elim, arith, get_or-set_same, get_or-set_other}
use Rattle.std.proofs.lemmas.Bool.{cases_eq}
use Rattle.std.proofs.lemmas.List.{length-set, length-take, get_or-take, take-take}
use Rattle.std.proofs.lemmas.Option.{slice_get-get_or, slice_get_within, get_or_from_slice_get}
use Rattle.grid_base.specs.declared.size.Size.{Size}
use Rattle.grid_base.specs.declared.vertex.Vertex.{Vertex}
use Rattle.grid_base.specs.Lists.{At}
use Rattle.lower_bound.specs.Spread.{IsNext, IsSpread}

-- what stands in a list of which one place was written
pub at_set : {X : Type 0} (xs : List X) (k i : ℕ) (x t : X) → k < length xs → At (set xs k x) i t → ((i ≡ k) × (t ≡ x)) ⊎ ((i ≢ k) × At xs i t)
at_set xs k i x t low at =
    let read : get_or (set xs k x) i t ≡ t = get_or_from_slice_get (set xs k x) i t t at in
    ⊎_elim
    (λ here. inl (here, sym read ∙ ap (λ j. get_or (set xs k x) j t) here ∙ get_or-set_same xs k x t low))
    (λ other. inr (other, slice_get-get_or xs i t (omega (arith, slice_get_within (set xs k x) i t at, length-set xs k x)) ∙ ap (λ y. Some y) (sym (get_or-set_other xs k i x t other) ∙ read)))
    (cases_eq i k)

-- what stands in the front of a list
pub at_front : {X : Type 0} (xs : List X) (n i : ℕ) (t : X) → At (take n xs) i t → (i < n) × At xs i t
at_front xs n i t at =
    let inside = slice_get_within (take n xs) i t at in
    let long = length-take n xs in
    let low : i < n = omega (arith, inside, long) in
    (low, slice_get-get_or xs i t (omega (arith, inside, long)) ∙ ap (λ y. Some y) (sym (get_or-take n xs i t low) ∙ get_or_from_slice_get (take n xs) i t t at))

-- so far as a list is filled with the spread, its front is the spread
pub spread_filled : (s : Size) (terminals xs : List Vertex) (n : ℕ) → length xs ≡ 5 → n ≡ min 5 (length terminals) → ((i : ℕ) (t : Vertex) → i < n → At xs i t → IsNext s terminals (take i xs) t) → IsSpread s terminals (take n xs)
spread_filled s terminals xs n long count each = record {
  count = omega (arith, length-take n xs, long, count);
  each = λ i t at.
      let stands = at_front xs n i t at in
      subst (λ chosen. IsNext s terminals chosen t) (sym (take-take i n xs (omega (arith, stands.0)))) (each i t stands.0 stands.1);
}

-- a list of five by its places
pub five : (P : ℕ → Option Vertex → Type 0) (a b c d e : Option Vertex) → P 0 a → P 1 b → P 2 c → P 3 d → P 4 e → (i : ℕ) → i < 5 → P i (get_or (a ∷ b ∷ c ∷ d ∷ e ∷ []) i None)
five P a b c d e at_a at_b at_c at_d at_e zero low = at_a
five P a b c d e at_a at_b at_c at_d at_e (suc zero) low = at_b
five P a b c d e at_a at_b at_c at_d at_e (suc (suc zero)) low = at_c
five P a b c d e at_a at_b at_c at_d at_e (suc (suc (suc zero))) low = at_d
five P a b c d e at_a at_b at_c at_d at_e (suc (suc (suc (suc zero)))) low = at_e
five P a b c d e at_a at_b at_c at_d at_e (suc (suc (suc (suc (suc i))))) low = absurd (omega arith)
