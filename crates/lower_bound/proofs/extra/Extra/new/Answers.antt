use Rattle.std.proofs.Common.{arith}
use Rattle.lower_bound.proofs.Mapped.{raised_list, raised_under}
use Rattle.lower_bound.proofs.extra.Extra.new.Goals as goal

pub invariant_of-result : goal.invariant_of-result
invariant_of-result g c = record {
  listed = raised_list (g.W.Weights.size c.args.weights) (g.W.Weights.pieces c.args.weights) c.args.piece (g.met.W.Weights.once c.args.weights) (g.met.W.Weights.inside c.args.weights) c.requires.weights c.requires.piece;
  small = omega (arith, c.requires.piece);
  under = raised_under (g.W.Weights.size c.args.weights) (g.W.Weights.pieces c.args.weights) c.args.piece (omega (arith, c.requires.piece));
}
