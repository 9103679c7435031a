use Rattle.std.proofs.Common.{◌<◌, ℕ, get_or}
use Rattle.grid_base.specs.declared.vertex.Vertex.{Vertex}
use Rattle.grid_base.specs.Walks.{InPieces, WalkBetween}
use Rattle.straight_runs.specs.Runs.{pieces_of}
use Rattle.straight_runs.specs.Touching.{AreGroups, first_of}
use Rattle.straight_runs.proofs.joining.are_in_one_group.Given as goal

-- walks lead from the root's run to the vertices so far
abbrev pub invariant-loop-v : goal.invariant-loop-v
invariant-loop-v l = record {
  groups : AreGroups l.size l.runs l.groups;
  reached : (k : ℕ) (d : Vertex) → k < l.v-index → WalkBetween l.size (InPieces (pieces_of l.size l.runs)) (first_of l.runs l.root) (get_or l.vertices k d).0;
}
