use Rattle.label_search.specs.Rows.{work_left}
use Rattle.label_search.specs.Runs.{IsSearch, IsSettled, FallsFrom}
use Rattle.label_search.proofs.search.settle.Given as goal

abbrev pub invariant-loop-goal : goal.invariant-loop-goal
invariant-loop-goal g l = record {
  search : IsSearch (g.B.Bound.rest l.bound) l.limit l.row;
  settled : IsSettled (g.W.Weights.size l.weights) (g.W.Weights.pieces l.weights) (g.B.Bound.rest l.bound) l.limit l.row;
  fell : FallsFrom (g.W.Weights.size l.weights) (g.W.Weights.pieces l.weights) l.initial.row l.row;
}

abbrev pub decreases-loop-goal : goal.decreases-loop-goal
decreases-loop-goal g l = work_left l.row
