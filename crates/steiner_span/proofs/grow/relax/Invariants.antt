use Rattle.std.proofs.Common.{◌≡◌}
use Rattle.steiner_span.specs.Growths.{AreKeys, RelaxesOn}
use Rattle.shortest_paths.specs.LabelWords.{labels_number}
use Rattle.label_search.proofs.Relaxing.{OfferedBelow}
use Rattle.label_search.specs.Stamped.{far}
use Rattle.steiner_span.proofs.grow.relax.Given as goal

abbrev pub invariant-loop-step : goal.invariant-loop-step
invariant-loop-step g l = record {
  keys : AreKeys (g.B.Bound.rest l.bound) l.labels;
  on : RelaxesOn (g.W.Weights.size l.weights) (g.W.Weights.pieces l.weights) l.fn.labels l.labels;
  from : labels_number l.labels l.fn.from.vertex.0 ≡ l.reached;
  offered : OfferedBelow (g.W.Weights.size l.weights) (g.W.Weights.pieces l.weights) (λ u. 0) far (labels_number l.labels) l.fn.from.vertex.0 l.reached l.step-index;
}
