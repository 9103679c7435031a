use Rattle.dual_bound.proofs.GreatestPrices.{IsGreatestBefore}
use Rattle.dual_bound.proofs.shown.greatest_price.Given as goal

abbrev pub invariant-loop-price : goal.invariant-loop-price
invariant-loop-price l = IsGreatestBefore l.prices l.price-index l.greatest
