use Rattle.grid_base.specs.Numbers.{IsVertex}
use Rattle.lower_bound.proofs.Farthest.{IsFarthest}
use Rattle.lower_bound.proofs.spread.next.Given as goal

abbrev pub invariant-loop-place : goal.invariant-loop-place
invariant-loop-place l = record {
  vertex : IsVertex l.size l.best.0;
  farthest : IsFarthest l.size l.terminals l.chosen l.place l.reach l.best;
}
