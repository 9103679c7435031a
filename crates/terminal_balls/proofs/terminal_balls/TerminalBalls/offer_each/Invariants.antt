use Rattle.terminal_balls.specs.Balls.{balls_of}
use Rattle.terminal_balls.specs.Growths.{AreKept, GrowOn, IsSame}
use Rattle.terminal_balls.proofs.Offering.{AreMetBelow}
use Rattle.terminal_balls.proofs.terminal_balls.TerminalBalls.offer_each.Given as goal

-- the steps before this one were offered
abbrev pub invariant-loop-step : goal.invariant-loop-step
invariant-loop-step g l = record {
  kept : AreKept l.self;
  grow_on : GrowOn l.fn.self l.self;
  same : IsSame (balls_of l.fn.self) (balls_of l.self) l.fn.from.vertex.0;
  met : AreMetBelow (g.W.Weights.size l.weights) (g.W.Weights.pieces l.weights) (g.W.FlooredWeights.over l.weights)
      (balls_of l.self) l.fn.from.vertex.0 l.owner l.reached l.step-index;
}
