use Rattle.least_weights.proofs.FewVertices.{few_least}
use Rattle.least_weights.proofs.by_tiles.led_least.Goals as goal

pub returns-then-terminals-lt2-clause-least : goal.returns-then-terminals-lt2-clause-least
returns-then-terminals-lt2-clause-least g c = few_least (g.W.Weights.size c.args.weights.now) (g.W.Weights.pieces c.args.weights.now) c.args.terminals.now c.if-terminals-lt2.true c.requires.joined

pub returns-clause-least : goal.returns-clause-least
returns-clause-least g c = c.in_ok-least.ensures.least.lightest
