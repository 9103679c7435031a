use Rattle.std.proofs.Common.{◌≡◌, ◌<◌, ℕ, length, take}
use Rattle.grid_base.specs.declared.vertex.Vertex.{Vertex}
use Rattle.grid_base.specs.Lists.{At}
use Rattle.grid_base.specs.Numbers.{IsVertex}
use Rattle.lower_bound.specs.Spread.{IsNext}
use Rattle.lower_bound.proofs.spread.choose.Given as goal

abbrev pub invariant-loop-place : goal.invariant-loop-place
invariant-loop-place l = record {
  long : length l.chosen ≡ 5;
  vertices : (i : ℕ) (v : Vertex) → i < l.place → At l.chosen i v → IsVertex l.fn.size v.0;
  each : (i : ℕ) (t : Vertex) → i < l.place → At l.chosen i t → IsNext l.fn.size l.terminals (take i l.chosen) t;
}
