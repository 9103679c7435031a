use Rattle.std.proofs.Common.{ap, pos, arith, to_z, of_z, to_z-of_z}
use Rattle.std.specs.Prelude.{FitsSigned}
use Rattle.std.specs.Int.{w128}
use Rattle.std.proofs.lemmas.Int.{ints}
use Rattle.text_scan.proofs.Fronts.{digits_are_front}
use Rattle.text_scan.proofs.number_front.number_front.Goals as goal

pub returns-in-Some-clause-front : goal.returns-in-Some-clause-front
returns-in-Some-clause-front c =
    let digits = c.in-Some.digits in
    let fits : FitsSigned w128 (pos digits.value) = rw (← c.from.ensures) (omega (arith, ints, c.from.type_inv)) in
    rw (ap (λ x. to_z w128 (of_z w128 x)) c.from.ensures, to_z-of_z fits) (digits_are_front c.args.bytes.now c.args.at digits.end digits.value fits
    c.in-Some.ensures.end c.in-Some.ensures.within c.if-digits-at.true c.in-Some.ensures.value)
