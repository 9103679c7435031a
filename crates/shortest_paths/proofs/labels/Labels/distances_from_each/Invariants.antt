use Rattle.std.proofs.Common.{◌≡◌, ◌<◌, ◌≤◌, ℕ}
use Rattle.shortest_paths.specs.LabelWords.{labels_size, masks_of, label_of}
use Rattle.steiner_tables.specs.LoneRows.{IsLoneRow}
use Rattle.shortest_paths.proofs.labels.Labels.distances_from_each.Given as goal

abbrev pub invariant-loop-place : goal.invariant-loop-place
invariant-loop-place g l = record {
  size : labels_size l.self ≡ labels_size l.initial.self;
  masks : masks_of l.self ≡ masks_of l.initial.self;
  rows : (place : ℕ) → l.first ≤ place → place < l.place
      → IsLoneRow (g.W.Weights.size l.weights) (g.W.Weights.pieces l.weights) l.terminals (g.F.Family.low l.family) l.limit (label_of l.self) place;
}
