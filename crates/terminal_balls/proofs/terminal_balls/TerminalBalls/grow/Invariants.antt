use Rattle.std.proofs.Common.{◌≡◌}
use Rattle.shortest_paths.specs.LabelWords.{labels_size}
use Rattle.terminal_balls.specs.Growths.{AreKept, AreGrowing}
use Rattle.terminal_balls.proofs.terminal_balls.TerminalBalls.grow.Given as goal

abbrev pub invariant-loop : goal.invariant-loop
invariant-loop g l = record {
  size : labels_size l.self.labels ≡ g.W.Weights.size l.weights;
  kept : AreKept l.self;
  growing : AreGrowing (g.W.Weights.size l.weights) (g.W.Weights.pieces l.weights) (g.W.FlooredWeights.over l.weights) l.terminals l.self;
}
