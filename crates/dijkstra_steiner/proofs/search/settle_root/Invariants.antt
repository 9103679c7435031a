use Rattle.std.proofs.Common.{◌≡◌}
use Rattle.label_search.specs.Rows.{size_in, work_left}
use Rattle.dijkstra_steiner.proofs.Settling.{IsSettling}
use Rattle.dijkstra_steiner.proofs.search.settle_root.Given as goal

abbrev pub invariant-loop-goal : goal.invariant-loop-goal
invariant-loop-goal g l = record {
  size : size_in l.row ≡ l.rest.stack.size;
  settling : IsSettling l.rest.stack.flat (g.W.Weights.pieces l.weights) (g.F.Family.terminals l.rest.family.now)
      (g.F.Family.low l.rest.family.now) l.last l.goal.0 l.row;
}

abbrev pub decreases-loop-goal : goal.decreases-loop-goal
decreases-loop-goal g l = work_left l.row
