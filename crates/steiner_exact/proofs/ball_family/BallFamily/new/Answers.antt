use Rattle.steiner_exact.proofs.RowLaws.{balls_beside}
use Rattle.terminal_balls.specs.Balls.{balls_of}
use Rattle.steiner_exact.proofs.ball_family.BallFamily.new.Goals as goal

pub invariant_of-result-clause-holds : goal.invariant_of-result-clause-holds
invariant_of-result-clause-holds g c =
    let x = c.args.row.now in
    let w = x.weights.now in
    x.over _ (balls_beside x.size (g.W.Weights.pieces w) (g.W.FlooredWeights.over w) x.terminals.now x.via (balls_of c.args.balls.now) x.layered c.requires.balls)
