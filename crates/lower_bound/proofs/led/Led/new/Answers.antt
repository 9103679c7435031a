use Rattle.std.proofs.Common.{arith}
use Rattle.lower_bound.proofs.LedWeights.{led_under}
use Rattle.lower_bound.proofs.Mapped.{raised_list}
use Rattle.lower_bound.proofs.led.Led.new.Goals as goal

pub invariant_of-result : goal.invariant_of-result
invariant_of-result g c =
    let s = g.W.Weights.size c.args.weights in
    let pieces = g.W.Weights.pieces c.args.weights in
    record {
      listed = raised_list s pieces c.args.extra (g.met.W.Weights.once c.args.weights) (g.met.W.Weights.inside c.args.weights) c.requires.weights c.requires.extra;
      small = omega (arith, c.requires.extra);
      flat = c.requires.flat;
      under = led_under s pieces c.args.costs.now.costs.items c.args.extra c.requires.between;
    }
