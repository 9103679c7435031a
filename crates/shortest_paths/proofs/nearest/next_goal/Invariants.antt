use Rattle.std.proofs.Common.{◌^◌}
use Rattle.shortest_paths.specs.Nearest.{DoGoalsWait}
use Rattle.label_search.specs.Rows.{work_left}
use Rattle.label_search.specs.Runs.{IsSearch, IsSettled, FallsFrom}
use Rattle.shortest_paths.proofs.nearest.next_goal.Given as goal

abbrev pub invariant-loop-bound : goal.invariant-loop-bound
invariant-loop-bound g l = record {
  search : IsSearch (λ _. 0) (2 ^ 62) l.row;
  settled : IsSettled (g.W.Weights.size l.weights) (g.W.Weights.pieces l.weights) (λ _. 0) (2 ^ 62) l.row;
  fell : FallsFrom (g.W.Weights.size l.weights) (g.W.Weights.pieces l.weights) l.initial.row l.row;
  waits : DoGoalsWait l.row l.count l.source.0;
}

abbrev pub decreases-loop-bound : goal.decreases-loop-bound
decreases-loop-bound g l = work_left l.row
