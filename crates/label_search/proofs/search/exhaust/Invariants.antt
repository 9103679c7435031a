use Rattle.label_search.specs.Rows.{work_left}
use Rattle.label_search.specs.Runs.{IsSearch, IsSettled, FallsFrom}
use Rattle.label_search.proofs.search.exhaust.Given as goal

abbrev pub invariant-loop-row : goal.invariant-loop-row
invariant-loop-row g l = record {
  search : IsSearch (g.B.Bound.rest l.bound) l.limit l.row;
  settled : IsSettled (g.W.Weights.size l.weights) (g.W.Weights.pieces l.weights) (g.B.Bound.rest l.bound) l.limit l.row;
  fell : FallsFrom (g.W.Weights.size l.weights) (g.W.Weights.pieces l.weights) l.initial.row l.row;
}

abbrev pub decreases-loop-row : goal.decreases-loop-row
decreases-loop-row g l = work_left l.row
