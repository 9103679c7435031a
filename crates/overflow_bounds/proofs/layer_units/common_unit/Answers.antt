use Rattle.std.proofs.Common.{◌≡◌, ◌%◌, ◌∙◌, ap, arith}
use Rattle.std.proofs.Math.Nat.{mod_self, zero-mod}
use Rattle.overflow_bounds.proofs.Units.{divides_back, divides_below}
use Rattle.overflow_bounds.proofs.layer_units.common_unit.Goals as goal

pub loop-rest-init : goal.loop-rest-init
loop-rest-init c = record { some = c.requires; divides = λ d one other. (one, other) }

pub loop-rest-preserved : goal.loop-rest-preserved
loop-rest-preserved c = record {
  some = omega (arith, c.loop-rest-test.true);
  divides = λ d of_rest of_next. c.loop-rest.invariant.divides d (divides_back c.loop-rest.unit c.loop-rest.rest d of_rest of_next) of_rest;
}

-- the number that is left divides itself, and 0
at_end : (c : goal.After-loop-rest) → (c.args.one % c.loop-rest.unit ≡ 0) × (c.args.other % c.loop-rest.unit ≡ 0)
at_end c =
    let none : c.loop-rest.rest ≡ 0 = omega (arith, c.loop-rest-test.false) in
    c.loop-rest.invariant.divides c.loop-rest.unit (mod_self c.loop-rest.unit) (ap (λ n. n % c.loop-rest.unit) none ∙ zero-mod c.loop-rest.unit)

pub returns-clause-small : goal.returns-clause-small
returns-clause-small c = divides_below c.args.one c.loop-rest.unit c.requires (at_end c).0

pub returns-clause-one : goal.returns-clause-one
returns-clause-one c = (at_end c).0

pub returns-clause-other : goal.returns-clause-other
returns-clause-other c = (at_end c).1
