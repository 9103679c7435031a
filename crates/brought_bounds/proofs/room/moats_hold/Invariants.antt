use Rattle.std.proofs.Common.{◌≡◌, ◌<◌, ℕ}
use Rattle.shortest_paths.specs.LabelWords.{labels_size, masks_of}
use Rattle.brought_bounds.specs.MoatWords.{IsApart}
use Rattle.brought_bounds.proofs.room.moats_hold.Given as goal

abbrev pub invariant-loop-place : goal.invariant-loop-place
invariant-loop-place g l = record {
  size : labels_size l.labels ≡ labels_size l.initial.labels;
  masks : masks_of l.labels ≡ masks_of l.initial.labels;
  apart : (place : ℕ) → place < l.place → IsApart l.fn.size (g.W.Weights.pieces l.weights) l.terminals l.moats.radii place;
}
