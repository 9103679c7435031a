use Rattle.std.proofs.Common.{ℕ, ◌≡◌, ◌≢◌, ◌<◌, length}
use Rattle.landmarks.specs.Numbers.{known_number, number_by}
use Rattle.landmarks.proofs.landmarks.Landmarks.write.Given as goal

-- the vertices before this one have their numbers
abbrev pub invariant-loop-v : goal.invariant-loop-v
invariant-loop-v l = record {
  long : length l.self.numbers.items ≡ length l.initial.self.numbers.items;
  floors : l.self.floors ≡ l.initial.self.floors;
  written : (v : ℕ) → v < l.v → number_by l.self.numbers.items l.fn.landmark v ≡ known_number l.labels v;
  others : (k v : ℕ) → k ≢ l.fn.landmark
      → number_by l.self.numbers.items k v ≡ number_by l.initial.self.numbers.items k v;
}
