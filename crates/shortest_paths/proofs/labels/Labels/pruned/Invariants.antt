use Rattle.std.proofs.Common.{◌≡◌, ◌-◌}
use Rattle.shortest_paths.specs.LabelWords.{labels_size, masks_of, label_of}
use Rattle.label_search.specs.Stamped.{far}
use Rattle.steiner_tables.specs.Tables.{IsPrunedTable}
use Rattle.shortest_paths.proofs.labels.Labels.pruned.Given as goal

abbrev pub invariant-loop-mask : goal.invariant-loop-mask
invariant-loop-mask g l = record {
  size : labels_size l.self ≡ labels_size l.initial.self;
  masks : masks_of l.self ≡ masks_of l.initial.self;
  table : IsPrunedTable (g.W.Weights.size l.weights) (g.W.Weights.pieces l.weights) l.terminals (l.mask - 1) (g.F.Family.low l.family) l.limit far (label_of l.self);
}
