use Rattle.shortest_paths.specs.LabelWords.{label_of}
use Rattle.shortest_paths.proofs.Backwards.{NoneReachesBelow}
use Rattle.steiner_exact.proofs.reading.behind.Given as goal

abbrev pub invariant-loop-step : goal.invariant-loop-step
invariant-loop-step g l = NoneReachesBelow (g.W.Weights.size l.weights) (g.W.Weights.pieces l.weights) (label_of l.labels l.mask) l.fn.here.0 l.number l.step-index
