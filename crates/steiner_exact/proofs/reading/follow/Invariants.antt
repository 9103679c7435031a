use Rattle.std.proofs.Common.{◌≤◌}
use Rattle.grid_base.specs.Numbers.{IsVertex}
use Rattle.shortest_paths.specs.LabelWords.{label_of}
use Rattle.label_search.specs.Stamped.{most}
use Rattle.steiner_exact.specs.Reading.{LeadsTo}
use Rattle.steiner_exact.proofs.reading.follow.Given as goal

-- what was listed leads to where the way has come
abbrev pub invariant-loop-before : goal.invariant-loop-before
invariant-loop-before g l = record {
  vertex : IsVertex (g.W.Weights.size l.weights) l.here.0;
  kept : label_of l.labels l.mask l.here.0 ≤ most;
  leads : LeadsTo (g.W.Weights.size l.weights) (g.W.Weights.pieces l.weights) l.mask (label_of l.labels l.mask) l.fn.v.0 l.here.0 l.initial.tree.items l.tree.items;
}

abbrev pub decreases-loop-before : goal.decreases-loop-before
decreases-loop-before g l = label_of l.labels l.mask l.here.0
