use Rattle.std.proofs.Common.{◌≡◌, ◌<◌, ℕ}
use Rattle.grid_base.specs.Walks.{InVertices}
use Rattle.steiner_span.specs.Growths.{IsGrowing, IsGrown, FallsTo}
use Rattle.shortest_paths.specs.LabelWords.{labels_number}
use Rattle.shortest_paths.specs.LedSearches.{work_of}
use Rattle.steiner_span.proofs.grow.grow_to.Given as goal

abbrev pub invariant-loop-goal : goal.invariant-loop-goal
invariant-loop-goal g l = record {
  ahead_size : g.A.Bound.size l.ahead ≡ g.A.Bound.size l.fn.ahead;
  ahead : g.A.Bound.pieces l.ahead ≡ g.A.Bound.pieces l.fn.ahead;
  left : (v : ℕ) → InVertices l.terminals v → 0 < labels_number l.labels v → g.A.Ahead.left l.ahead v;
  growing : IsGrowing (g.W.Weights.size l.weights) (g.W.Weights.pieces l.weights) (InVertices l.terminals) (g.A.Bound.rest l.ahead) l.labels;
  grown : IsGrown (g.W.Weights.size l.weights) (g.W.Weights.pieces l.weights) l.terminals (labels_number l.labels) l.grown.items;
  fell : FallsTo l.fn.labels l.labels;
}

abbrev pub decreases-loop-goal : goal.decreases-loop-goal
decreases-loop-goal g l = work_of l.labels
