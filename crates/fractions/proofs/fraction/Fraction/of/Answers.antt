use Rattle.fractions.proofs.Ratios.{IsLowest-from_gcd, same_ratio}
use Rattle.fractions.proofs.fraction.Fraction.of.Goals as goal

pub invariant_of-result : goal.invariant_of-result
invariant_of-result c = record { lowest = IsLowest-from_gcd c.args.num c.args.den _ c.greatest_divisor-divisor.ensures c.requires.num c.requires.positive c.requires.den }

pub returns : goal.returns
returns c = same_ratio c.args.num c.args.den _ c.greatest_divisor-divisor.ensures
