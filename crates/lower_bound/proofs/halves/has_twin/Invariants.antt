use Rattle.std.proofs.Common.{◌≢◌, ◌<◌, ℕ, get_or}
use Rattle.grid_base.specs.declared.vertex.Vertex.{Vertex}
use Rattle.lower_bound.proofs.halves.has_twin.Given as goal

abbrev pub invariant-loop-other : goal.invariant-loop-other
invariant-loop-other l =
    (i : ℕ) (d : Vertex) → i < l.other → i ≢ l.place → get_or l.terminals i d ≢ get_or l.terminals l.place d
