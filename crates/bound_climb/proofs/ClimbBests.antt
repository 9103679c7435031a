-- The first of the greatest of some bounds.
use Rattle.std.proofs.Common.{ℕ, ◌*◌, ◌<◌, ◌≤◌, List, [], ◌∷◌, ◌++◌, length, Option, Some, None, refl, subst, inl, inr, ⊎_elim, arith}
use Rattle.std.specs.Prelude.{◌⊎◌}
use Rattle.std.proofs.lemmas.Bool.{cases_lt}
use Rattle.std.proofs.lemmas.Option.{slice_get_within}
use Rattle.grid_base.proofs.Lists.{At-push, At-pushed, At-push_cases}
use Rattle.fractions.specs.declared.fraction.Fraction.{Fraction}
use Rattle.fractions.specs.Fractions.{IsAtMost}
use Rattle.fractions.proofs.Ratios.{ratio-trans}
use Rattle.bound_climb.specs.Climbs.{IsGreaterBound, IsFirstGreatest}

-- of two fractions one is at most the other
either_at_most : (f g : Fraction) → IsAtMost f g ⊎ ((f.num * g.den) ≤ (g.num * f.den) → ⊥)
either_at_most f g =
    ⊎_elim
    (λ (less : g.num * f.den < f.num * g.den). inr (λ most. omega (arith, less, most)))
    (λ (most : f.num * g.den ≤ g.num * f.den). inl most)
    (cases_lt (g.num * f.den) (f.num * g.den))

at_most_otherwise : (f g : Fraction) → ¬ IsAtMost f g → IsAtMost g f
at_most_otherwise f g above =
    ⊎_elim
    (λ (less : g.num * f.den < f.num * g.den). omega (arith, less))
    (λ (most : f.num * g.den ≤ g.num * f.den). absurd (above most))
    (cases_lt (g.num * f.den) (f.num * g.den))

at_most-trans : (f g h : Fraction) → IsAtMost f g → IsAtMost g h → IsAtMost f h
at_most-trans f g h first next = ratio-trans f.num f.den g.num g.den h.num h.den first next (omega (arith, g.lowest.positive))

-- ---- bounds, one of which may be none

pub greater_or_not : (a b : Option Fraction) → IsGreaterBound a b ⊎ ¬ IsGreaterBound a b
greater_or_not None b = inr (λ above. above)
greater_or_not (Some f) None = inl tt
greater_or_not (Some f) (Some g) = ⊎_elim (λ (most : IsAtMost f g). inr (λ above. above most)) (λ above. inl above) (either_at_most f g)

pub not_greater_than_itself : (a : Option Fraction) → ¬ IsGreaterBound a a
not_greater_than_itself None above = above
not_greater_than_itself (Some f) above = above (omega arith)

-- what is greater than a greater one is greater
pub greater-trans : (a b c : Option Fraction) → IsGreaterBound a b → IsGreaterBound b c → IsGreaterBound a c
greater-trans None b c above next = absurd above
greater-trans (Some f) None c above next = absurd next
greater-trans (Some f) (Some g) None above next = tt
greater-trans (Some f) (Some g) (Some h) above next = λ most. above (at_most-trans f h g most (at_most_otherwise g h next))

-- what is greater than one is greater than what isn't greater than that
pub greater_than_less : (a b c : Option Fraction) → IsGreaterBound a b → ¬ IsGreaterBound c b → IsGreaterBound a c
greater_than_less None b c above low = absurd above
greater_than_less (Some f) b None above low = tt
greater_than_less (Some f) None (Some h) above low = absurd (low tt)
greater_than_less (Some f) (Some g) (Some h) above low = λ most. low (λ less. above (at_most-trans f h g most less))

-- ---- one bound more

pub first_of_one : (bound : Option Fraction) → IsFirstGreatest (bound ∷ []) 0 bound
first_of_one bound = record {
  stands = refl;
  greatest = λ k other at above. ⊎_elim
      (λ none. absurd (omega (arith, slice_get_within [] k other none)))
      (λ last. not_greater_than_itself bound (subst (λ (x : Option Fraction). IsGreaterBound x bound) last.1 above))
      (At-push_cases [] bound other k at);
  first = λ k other early at. absurd (omega (arith, early));
}

-- a greater one is the first of the greatest
pub greatest_taken : (bounds : List (Option Fraction)) (place : ℕ) (best bound : Option Fraction) → IsFirstGreatest bounds place best → IsGreaterBound bound best
    → IsFirstGreatest (bounds ++ bound ∷ []) (length bounds) bound
greatest_taken bounds place best bound was above = record {
  stands = At-pushed bounds bound;
  greatest = λ k other at more. ⊎_elim
      (λ old. was.greatest k other old (greater-trans other bound best more above))
      (λ last. not_greater_than_itself bound (subst (λ (x : Option Fraction). IsGreaterBound x bound) last.1 more))
      (At-push_cases bounds bound other k at);
  first = λ k other early at. ⊎_elim
      (λ old. greater_than_less bound best other above (was.greatest k other old))
      (λ last. absurd (omega (arith, early, last.0)))
      (At-push_cases bounds bound other k at);
}

-- and one that isn't greater leaves the first where it was
pub greatest_left : (bounds : List (Option Fraction)) (place : ℕ) (best bound : Option Fraction) → IsFirstGreatest bounds place best → ¬ IsGreaterBound bound best
    → IsFirstGreatest (bounds ++ bound ∷ []) place best
greatest_left bounds place best bound was low = record {
  stands = At-push bounds bound best place was.stands;
  greatest = λ k other at more. ⊎_elim
      (λ old. was.greatest k other old more)
      (λ last. low (subst (λ (x : Option Fraction). IsGreaterBound x best) last.1 more))
      (At-push_cases bounds bound other k at);
  first = λ k other early at. ⊎_elim
      (λ old. was.first k other early old)
      (λ last. absurd (omega (arith, early, last.0, slice_get_within bounds place best was.stands)))
      (At-push_cases bounds bound other k at);
}
