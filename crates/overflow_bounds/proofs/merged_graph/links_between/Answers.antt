use Rattle.std.proofs.Common.{sym, subst}
use Rattle.overflow_bounds.specs.MergedGraphs.{AreLinksOf}
use Rattle.overflow_bounds.proofs.Merging.{no_links}
use Rattle.overflow_bounds.proofs.merged_graph.links_between.Goals as goal

pub loop-e-init : goal.loop-e-init
loop-e-init g c =
    let pieces = g.W.Weights.pieces c.args.weights.now in
    subst (AreLinksOf c.args.size pieces c.args.nodes.now 0) (sym c.new-links.ensures.items) (no_links c.args.size pieces c.args.nodes.now)
