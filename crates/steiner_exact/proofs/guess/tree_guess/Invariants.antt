use Rattle.std.proofs.Common.{◌≡◌, ◌≤◌, All}
use Rattle.grid_base.specs.declared.vertex.Vertex.{Vertex}
use Rattle.grid_base.specs.Numbers.{IsVertex}
use Rattle.shortest_paths.specs.LabelWords.{labels_size, masks_of}
use Rattle.label_search.specs.Stamped.{most}
use Rattle.steiner_exact.proofs.guess.tree_guess.Given as goal

abbrev pub invariant-loop : goal.invariant-loop
invariant-loop g l = record {
  limit : l.guess ≤ most;
  size : labels_size l.labels ≡ labels_size l.fn.labels;
  masks : masks_of l.labels ≡ masks_of l.fn.labels;
  tree : All (λ (v : Vertex). IsVertex (g.W.Weights.size l.weights) v.0) l.tree.items;
}
