use Rattle.std.proofs.Common.{length}
use Rattle.shortest_paths.specs.LabelWords.{labels_number}
use Rattle.steiner_span.proofs.Reaching.{IsOnWay, IsSeeding}
use Rattle.steiner_span.proofs.grow.reach.Given as goal

abbrev pub invariant-loop-from : goal.invariant-loop-from
invariant-loop-from g l = record {
  seeding : IsSeeding (g.W.Weights.size l.weights) (g.W.Weights.pieces l.weights) (g.A.Bound.rest l.ahead) l.fn.labels l.labels;
  on : IsOnWay (g.W.Weights.size l.weights) (g.W.Weights.pieces l.weights) l.terminals (labels_number l.fn.labels) (labels_number l.labels) l.fn.at.vertex.0 l.way.items l.grown.items;
}

abbrev pub decreases-loop-from : goal.decreases-loop-from
decreases-loop-from g l = length l.way.items
