-- Which totals are better, and that the better ones are never worse.
use Rattle.std.proofs.Common.{refl, inl, inr, arith, ◌∙◌}
use Rattle.routing_state.specs.declared.totals.Totals.{Totals}
use Rattle.routing_state.specs.Totals.{IsBetter, IsNoWorse}

-- nothing is worse than itself
pub IsNoWorse-refl : (a : Totals) → IsNoWorse a a
IsNoWorse-refl a = inr (refl, omega arith)

-- what is no worse than what is no worse is no worse
pub IsNoWorse-trans : (a b c : Totals) → IsNoWorse a b → IsNoWorse b c → IsNoWorse a c
IsNoWorse-trans a b c (inl first) (inl second) = inl (omega (arith, first, second))
IsNoWorse-trans a b c (inl first) (inr second) = inl (omega (arith, first, second.0))
IsNoWorse-trans a b c (inr first) (inl second) = inl (omega (arith, first.0, second))
IsNoWorse-trans a b c (inr first) (inr second) = inr (first.0 ∙ second.0, omega (arith, first.1, second.1))

-- the better is no worse
pub IsNoWorse-better : (a b : Totals) → IsBetter a b → IsNoWorse a b
IsNoWorse-better a b (inl less) = inl less
IsNoWorse-better a b (inr short) = inr (short.0, omega (arith, short.1))
