use Rattle.overflow_bounds.specs.MergedGraphs.{AreLinksOf}
use Rattle.overflow_bounds.proofs.merged_graph.links_between.Given as goal

-- the links along the edges so far
abbrev pub invariant-loop-e : goal.invariant-loop-e
invariant-loop-e g l = AreLinksOf l.fn.size (g.W.Weights.pieces l.weights) l.nodes l.e l.links.items
