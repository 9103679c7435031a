use Rattle.std.proofs.Common.{ℕ, ◌≡◌, ◌<◌, ◌≤◌, length, get_or}
use Rattle.grid_base.specs.declared.vertex.Vertex.{Vertex}
use Rattle.least_weights.proofs.keeping.five_of.Given as goal

abbrev pub invariant-loop-place : goal.invariant-loop-place
invariant-loop-place l = record {
  long : length l.five ≡ 5;
  front : (k : ℕ) (d : Vertex) → k < l.place → get_or l.five k d ≡ get_or l.tiles k d;
  behind : (k : ℕ) (d : Vertex) → l.place ≤ k → k < 5 → get_or l.five k d ≡ get_or l.tiles 0 d;
}
