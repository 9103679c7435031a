use Rattle.bound_climb.proofs.Right.{right_for_none}
use Rattle.bound_climb.proofs.checking.number_of.Goals as goal

pub returns-then-terminals-lt2-clause-right : goal.returns-then-terminals-lt2-clause-right
returns-then-terminals-lt2-clause-right g c =
    right_for_none (g.W.Weights.size c.args.weights.now) (g.W.Weights.pieces c.args.weights.now) c.args.terminals.now
    c.args.proof.now c.number_of_none.result c.if-terminals-lt2.true c.number_of_none.ensures
