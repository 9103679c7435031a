use Rattle.std.proofs.Common.{◌≡◌, length}
use Rattle.shortest_paths.specs.LabelWords.{labels_size, masks_of}
use Rattle.landmarks.specs.Numbers.{RiseSlowly}
use Rattle.landmarks.proofs.landmarks.Landmarks.measure.Given as goal

-- the numbers by the landmarks before this one rise slowly
abbrev pub invariant-loop-landmark : goal.invariant-loop-landmark
invariant-loop-landmark g l = record {
  long : length l.self.numbers.items ≡ length l.initial.self.numbers.items;
  floors : l.self.floors ≡ l.initial.self.floors;
  rise : RiseSlowly (g.W.Weights.size l.weights) (g.W.Weights.pieces l.weights) l.landmark l.self.numbers.items;
  sized : labels_size l.labels ≡ labels_size l.initial.labels;
  room : masks_of l.labels ≡ masks_of l.initial.labels;
}
