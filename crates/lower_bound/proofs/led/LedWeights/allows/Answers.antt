use Rattle.std.proofs.Common.{◌+◌}
use Rattle.lower_bound.proofs.Mapped.{raised_from, raised_into}
use Rattle.lower_bound.proofs.led.LedWeights.allows.Goals as goal

pub returns : goal.returns
returns g c =
    let pieces = g.W.Weights.pieces c.args.self.now.weights in
    let extra = c.args.self.now.extra in (
      λ may. let at = c.allows.ensures.0 may in (at.0 + extra, raised_into pieces extra c.args.p at.0 at.1),
      λ at. let old = raised_from pieces extra c.args.p at.0 at.1 in c.allows.ensures.1 (old.before, old.weighs),
    )
