use Rattle.std.proofs.Common.{◌≡◌, map, take}
use Rattle.hot_cuts.specs.Trials.{flat_price}
use Rattle.hot_cuts.proofs.trial.flattened.Given as goal

-- the prices so far
abbrev pub invariant-loop-price : goal.invariant-loop-price
invariant-loop-price l = l.flat.items ≡ map flat_price (take l.price-index l.prices)
