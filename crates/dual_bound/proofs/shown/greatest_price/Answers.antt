use Rattle.std.proofs.Common.{◌≡◌, ℕ, max, arith, nat_cmp}
use Rattle.std.specs.Ordering.{ord_max}
use Rattle.dual_bound.proofs.GreatestPrices.{greatest_more, greatest_of_all}
use Rattle.dual_bound.proofs.shown.greatest_price.Goals as goal

max_is : (a b r : ℕ) → r ≡ ord_max nat_cmp a b → r ≡ max a b
max_is a b r e = grind arith

pub loop-price-init : goal.loop-price-init
loop-price-init c = record { most = λ r below. absurd (omega (arith, below)); attained = λ some. absurd (omega (arith, some)) }

pub loop-price-preserved : goal.loop-price-preserved
loop-price-preserved c = greatest_more c.args.prices.now c.loop-price.price-index c.loop-price.greatest c.max-greatest.result c.loop-price.invariant (max_is _ _ _ c.max-greatest.ensures)

pub returns : goal.returns
returns c = greatest_of_all c.args.prices.now c.loop-price.price-index c.loop-price.greatest c.loop-price-test.false c.loop-price.invariant
