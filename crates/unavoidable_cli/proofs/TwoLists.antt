-- Which of two price lists serves.
use Rattle.std.proofs.Common.{◌≡◌, ◌≤◌, ◌<◌, ◌*◌, ℕ, sym, subst, inl, inr, arith, ⊎_elim}
use Rattle.std.specs.Prelude.{◌⊎◌, Option, Some, None}
use Rattle.std.proofs.lemmas.Bool.{cases_lt}
use Rattle.fractions.specs.declared.fraction.Fraction.{Fraction}
use Rattle.fractions.specs.Fractions.{IsAtMost}
use Rattle.fractions.proofs.Ratios.{ratio-trans}
use Rattle.grid_graph.specs.declared.design.Design.{Design}
use Rattle.unavoidable_cli.specs.declared.shown_list.ShownList.{ShownList}
use Rattle.unavoidable_cli.specs.Findings.{IsAbove}
use Rattle.unavoidable_cli.specs.ShownLists.{IsShownList}

-- one of two price lists shows no more overflow than the one that shows most
pub most_of_lists : (first second list : ShownList) (most : ℕ) → first.shown.overflow ≤ most → second.shown.overflow ≤ most → (list ≡ first) ⊎ (list ≡ second)
    → list.shown.overflow ≤ most
most_of_lists first second list most not_first not_second (inl is) = subst (λ (x : ShownList). x.shown.overflow ≤ most) (sym is) not_first
most_of_lists first second list most not_first not_second (inr is) = subst (λ (x : ShownList). x.shown.overflow ≤ most) (sym is) not_second

-- what is not more than another fraction is at most it
at_most : (f other : Fraction) → ¬ (¬ IsAtMost f other) → IsAtMost f other
at_most f other more = ⊎_elim
    (λ (greater : other.num * f.den < f.num * other.den). absurd (more (λ most. omega (arith, greater, most))))
    (λ most. most)
    (cases_lt (other.num * f.den) (f.num * other.den))

-- a bound that is not above one which is not above a third is not above that
pub not_above-trans : (a b c : Option Fraction) → ¬ IsAbove a b → ¬ IsAbove b c → ¬ IsAbove a c
not_above-trans None b c first second = λ above. above
not_above-trans (Some f) None c first second = λ above. first (λ none. none)
not_above-trans (Some f) (Some g) None first second = λ above. second (λ none. none)
not_above-trans (Some f) (Some g) (Some h) first second = λ above.
    above (ratio-trans f.num f.den g.num g.den h.num h.den (at_most f g first) (at_most g h second) (omega (arith, g.lowest.positive)))
