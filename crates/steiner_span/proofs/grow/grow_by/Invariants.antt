use Rattle.std.proofs.Common.{◌≡◌, ◌<◌, ℕ, All, take}
use Rattle.grid_base.specs.declared.vertex.Vertex.{Vertex}
use Rattle.grid_base.specs.Walks.{InVertices}
use Rattle.steiner_span.specs.Growths.{IsGrowing, IsGrown}
use Rattle.shortest_paths.specs.LedSearches.{AreFirst}
use Rattle.shortest_paths.specs.LabelWords.{labels_size, masks_of, labels_number}
use Rattle.steiner_span.proofs.grow.grow_by.Given as goal

abbrev pub invariant-loop-goal : goal.invariant-loop-goal
invariant-loop-goal g l = record {
  size : labels_size l.labels ≡ g.W.Weights.size l.weights;
  masks : masks_of l.labels ≡ masks_of l.fn.labels;
  ahead_size : g.A.Bound.size l.ahead ≡ g.W.Weights.size l.weights;
  ahead : g.A.Bound.pieces l.ahead ≡ g.W.Weights.pieces l.weights;
  left : (v : ℕ) → InVertices l.terminals v → 0 < labels_number l.labels v → g.A.Ahead.left l.ahead v;
  terminals : AreFirst l.terminals l.count l.labels;
  source : (v : ℕ) × InVertices l.terminals v × (labels_number l.labels v ≡ 0);
  growing : IsGrowing (g.W.Weights.size l.weights) (g.W.Weights.pieces l.weights) (InVertices l.terminals) (g.A.Bound.rest l.ahead) l.labels;
  grown : IsGrown (g.W.Weights.size l.weights) (g.W.Weights.pieces l.weights) l.terminals (labels_number l.labels) l.grown.items;
  done : All (λ (v : Vertex). labels_number l.labels v.0 ≡ 0) (take l.goal-index l.terminals);
}
