use Rattle.std.proofs.Common.{◌*◌, ◌<◌, ◌≤◌, sym, subst, arith}
use Rattle.std.proofs.lemmas.Grind.{div_ceil_times}
use Rattle.overflow_bounds.proofs.Units.{price_below}
use Rattle.overflow_bounds.proofs.wires.Wires.most_of.Goals as goal

pub returns-clause-price : goal.returns-clause-price
returns-clause-price c =
    let some : 0 < c.missing.result = omega (arith, c.missing.ensures.some) in
    let paid : c.price.result * c.layer_unit.result ≤ c.div_ceil.result * c.missing.result =
    subst (λ (n : _). c.price.result * c.layer_unit.result ≤ n * c.missing.result) (sym c.div_ceil.ensures) (div_ceil_times (c.price.result * c.layer_unit.result) c.missing.result some).0 in
    let small : c.missing.result ≤ c.layer_unit.result = omega (arith, c.missing.ensures.value, c.layer_unit.ensures.value) in
    omega (arith, c.price.ensures.value, price_below c.price.result c.layer_unit.result c.missing.result c.div_ceil.result (omega (arith, c.layer_unit.ensures.some)) small paid)
