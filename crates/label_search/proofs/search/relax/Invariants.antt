use Rattle.std.proofs.Common.{◌≡◌}
use Rattle.label_search.specs.Rows.{number_in}
use Rattle.label_search.specs.Runs.{IsSearch, Advances}
use Rattle.label_search.proofs.Relaxing.{OfferedBelow}
use Rattle.label_search.proofs.search.relax.Given as goal

abbrev pub invariant-loop-step : goal.invariant-loop-step
invariant-loop-step g l = record {
  search : IsSearch (g.B.Bound.rest l.bound) l.limit l.row;
  goes_on : Advances (g.W.Weights.size l.weights) (g.W.Weights.pieces l.weights) l.initial.row l.row;
  from : number_in l.row l.fn.from.vertex.0 ≡ l.reached;
  offered : OfferedBelow (g.W.Weights.size l.weights) (g.W.Weights.pieces l.weights) (g.B.Bound.rest l.bound) l.limit
      (number_in l.row) l.fn.from.vertex.0 l.reached l.step-index;
}
