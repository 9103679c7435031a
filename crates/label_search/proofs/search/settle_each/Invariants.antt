use Rattle.std.proofs.Common.{◌≡◌, ℕ, take, All}
use Rattle.grid_base.specs.declared.vertex.Vertex.{Vertex}
use Rattle.label_search.specs.Rows.{number_in}
use Rattle.label_search.specs.Runs.{IsSearch, IsSettled, FallsFrom}
use Rattle.label_search.specs.Searches.{IsLow}
use Rattle.label_search.proofs.search.settle_each.Given as goal

abbrev pub invariant-loop-goal : goal.invariant-loop-goal
invariant-loop-goal g l = record {
  search : IsSearch (g.B.Bound.rest l.bound) l.limit l.row;
  settled : IsSettled (g.W.Weights.size l.weights) (g.W.Weights.pieces l.weights) (g.B.Bound.rest l.bound) l.limit l.row;
  fell : FallsFrom (g.W.Weights.size l.weights) (g.W.Weights.pieces l.weights) l.initial.row l.row;
  low : (source : ℕ) → number_in l.initial.row source ≡ 0
      → All (λ (v : Vertex). IsLow (g.W.Weights.size l.weights) (g.W.Weights.pieces l.weights) source (number_in l.row) v.0)
      (take l.goal-index l.goals);
}
