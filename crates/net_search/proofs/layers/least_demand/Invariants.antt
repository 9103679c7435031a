use Rattle.std.proofs.Common.{◌≤◌, take}
use Rattle.std.specs.List.{All}
use Rattle.net_search.specs.Using.{HasEdges}
use Rattle.net_search.proofs.layers.least_demand.Given as goal

abbrev pub invariant-loop-layer : goal.invariant-loop-layer
invariant-loop-layer l = All (λ layer. HasEdges layer → l.least ≤ layer.demand) (take l.layer-index l.layers)
