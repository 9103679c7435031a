use Rattle.std.proofs.Common.{arith}
use Rattle.lower_bound.proofs.Mapped.{raised_from}
use Rattle.lower_bound.proofs.led.LedWeights.weight.Goals as goal

pub returns-clause-value : goal.returns-clause-value
returns-clause-value g c weight at =
    let old = raised_from (g.W.Weights.pieces c.args.self.now.weights) c.args.self.now.extra c.args.p weight at in
    omega (arith, old.sum, c.weight.ensures.value old.before old.weighs, c.from.ensures, c.min.ensures, c.args.self.now.listed.within c.args.p weight at)
