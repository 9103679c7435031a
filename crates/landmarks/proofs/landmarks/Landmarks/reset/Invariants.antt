use Rattle.std.proofs.Common.{ℕ, ◌≡◌, ◌<◌, length}
use Rattle.landmarks.specs.Numbers.{number_by}
use Rattle.landmarks.proofs.landmarks.Landmarks.reset.Given as goal

-- the vertices before this one have no distances
abbrev pub invariant-loop-v : goal.invariant-loop-v
invariant-loop-v g l = record {
  long : length l.self.numbers.items ≡ length l.initial.self.numbers.items;
  floors : l.self.floors ≡ l.initial.self.floors;
  none : (k v : ℕ) → v < l.v → number_by l.self.numbers.items k v ≡ 0;
}
