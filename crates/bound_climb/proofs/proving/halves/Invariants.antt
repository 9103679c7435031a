use Rattle.std.proofs.Common.{◌≡◌, ℕ, length}
use Rattle.grid_base.specs.Lists.{At}
use Rattle.shortest_paths.specs.LabelWords.{labels_size, masks_of}
use Rattle.lower_bound.specs.HalfWords.{IsHalf}
use Rattle.bound_climb.proofs.proving.halves.Given as goal

abbrev pub invariant-loop-place : goal.invariant-loop-place
invariant-loop-place g l = record {
  size : labels_size l.labels ≡ labels_size l.initial.labels;
  masks : masks_of l.labels ≡ masks_of l.initial.labels;
  long : length l.halves.items ≡ l.place;
  each : (place h : ℕ) → At l.halves.items place h → IsHalf (g.W.Weights.size l.weights) (g.W.Weights.pieces l.weights) l.terminals place h;
}
