use Rattle.std.proofs.Common.{◌≤◌, arith}
use Rattle.std.proofs.lemmas.Option.{same_Some}
use Rattle.cert_text.specs.StatedLimits.{IsRatioWithin}
use Rattle.cert_text.specs.Versions.{denominator_limit}
use Rattle.cert_text.proofs.LowestFractions.{least_denominator}
use Rattle.cert_text.proofs.reading.fraction_of.Goals as goal

pub returns-in-Some-clause-limits : goal.returns-in-Some-clause-limits
returns-in-Some-clause-limits c x is =
    let stated : IsRatioWithin c.args.version c.in-Some.ratio = c.requires c.in-Some.ratio c.in-Some.is in
    let low = least_denominator c.in-Some.ratio.num c.in-Some.ratio.den c.of.result stated.positive c.of.ensures in
    let below : c.of.result.den ≤ denominator_limit c.args.version = omega (arith, low, stated.den) in
    rw (same_Some _ _ is) at below
