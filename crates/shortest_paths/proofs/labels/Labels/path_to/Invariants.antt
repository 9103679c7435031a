use Rattle.std.proofs.Common.{◌+◌, ◌≤◌, ℕ}
use Rattle.grid_base.specs.Numbers.{IsVertex}
use Rattle.shortest_paths.specs.LabelWords.{labels_number}
use Rattle.label_search.specs.Paths.{IsPath}
use Rattle.label_search.specs.Stamped.{most}
use Rattle.shortest_paths.proofs.labels.Labels.path_to.Given as goal

abbrev pub invariant-loop-here : goal.invariant-loop-here
invariant-loop-here g l = record {
  vertex : IsVertex (g.W.Weights.size l.weights) l.here.0;
  found : labels_number l.self l.here.0 ≤ most;
  walked : (total : ℕ) × IsPath (g.W.Weights.size l.weights) (g.W.Weights.pieces l.weights) l.fn.v.0 l.here.0 total l.path.items × (total + labels_number l.self l.here.0 ≤ labels_number l.self l.fn.v.0);
}

abbrev pub decreases-loop-here : goal.decreases-loop-here
decreases-loop-here g l = labels_number l.self l.here.0
