use Rattle.std.proofs.Common.{◌<◌}
use Rattle.grid_base.specs.Spots.{IsSpot}
use Rattle.grid_base.specs.Walks.{InVertices}
use Rattle.steiner_span.specs.Growths.{IsTaken, FallsOn}
use Rattle.shortest_paths.specs.LedSearches.{work_of}
use Rattle.steiner_span.proofs.grow.next_terminal.Given as goal

abbrev pub invariant-loop-labels : goal.invariant-loop-labels
invariant-loop-labels g l = record {
  spot : IsSpot (g.W.Weights.size l.weights) l.at;
  taken : IsTaken (g.W.Weights.size l.weights) (g.W.Weights.pieces l.weights) (InVertices l.terminals) (g.B.Bound.rest l.bound) l.labels l.at.vertex.0;
  fell : FallsOn l.fn.labels l.labels;
  less : work_of l.labels < work_of l.fn.labels;
}

abbrev pub decreases-loop-labels : goal.decreases-loop-labels
decreases-loop-labels g l = work_of l.labels
