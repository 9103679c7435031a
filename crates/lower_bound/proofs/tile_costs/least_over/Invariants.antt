use Rattle.lower_bound.specs.TileCosts.{IsLeastOn}
use Rattle.lower_bound.proofs.tile_costs.least_over.Given as goal

abbrev pub invariant-loop-layer : goal.invariant-loop-layer
invariant-loop-layer g l = IsLeastOn l.fn.size (g.W.Weights.pieces l.weights) l.e l.layer l.least
