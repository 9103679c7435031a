use Rattle.std.proofs.Common.{◌<◌, reverse}
use Rattle.grid_base.specs.Spots.{IsSpot}
use Rattle.steiner_span.specs.Growths.{IsWayBack}
use Rattle.shortest_paths.specs.LabelWords.{labels_number}
use Rattle.label_search.specs.Stamped.{far}
use Rattle.steiner_span.proofs.way_back.way_back.Given as goal

abbrev pub invariant-loop-here : goal.invariant-loop-here
invariant-loop-here g l = record {
  spot : IsSpot (g.W.Weights.size l.weights) l.here;
  numbered : labels_number l.labels l.here.vertex.0 < far;
  leads : IsWayBack (g.W.Weights.size l.weights) (g.W.Weights.pieces l.weights) (labels_number l.labels) l.fn.at.vertex.0 (reverse l.way.items) l.here.vertex.0;
}

abbrev pub decreases-loop-here : goal.decreases-loop-here
decreases-loop-here g l = labels_number l.labels l.here.vertex.0
