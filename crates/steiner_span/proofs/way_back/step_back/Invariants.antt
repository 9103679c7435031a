use Rattle.shortest_paths.specs.LabelWords.{labels_number}
use Rattle.shortest_paths.proofs.Backwards.{NoneReachesBelow}
use Rattle.steiner_span.proofs.way_back.step_back.Given as goal

abbrev pub invariant-loop-step : goal.invariant-loop-step
invariant-loop-step g l = NoneReachesBelow (g.W.Weights.size l.weights) (g.W.Weights.pieces l.weights) (labels_number l.labels) l.fn.here.vertex.0 l.number l.step-index
