use Rattle.std.proofs.Common.{All}
use Rattle.grid_base.specs.declared.vertex.Vertex.{Vertex}
use Rattle.grid_base.specs.Numbers.{IsVertex}
use Rattle.shortest_paths.specs.LabelWords.{labels_number}
use Rattle.steiner_exact.proofs.guess.list_way.Given as goal

abbrev pub invariant-loop-before : goal.invariant-loop-before
invariant-loop-before g l = record {
  vertex : IsVertex (g.W.Weights.size l.weights) l.here.0;
  tree : All (λ (v : Vertex). IsVertex (g.W.Weights.size l.weights) v.0) l.tree.items;
}

abbrev pub decreases-loop-before : goal.decreases-loop-before
decreases-loop-before g l = labels_number l.labels l.here.0
