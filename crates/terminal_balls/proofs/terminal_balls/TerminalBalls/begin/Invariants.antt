use Rattle.std.proofs.Common.{◌≡◌}
use Rattle.shortest_paths.specs.LabelWords.{labels_size}
use Rattle.terminal_balls.specs.Growths.{AreKept, AreBegun}
use Rattle.terminal_balls.proofs.terminal_balls.TerminalBalls.begin.Given as goal

-- the terminals before this place have begun
abbrev pub invariant-loop-place : goal.invariant-loop-place
invariant-loop-place l = record {
  size : labels_size l.self.labels ≡ labels_size l.fn.self.labels;
  kept : AreKept l.self;
  begun : AreBegun l.terminals l.place l.self;
}
