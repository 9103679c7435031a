use Rattle.std.proofs.Common.{◌≡◌, ◌*◌, ℕ, List, length, subst, arith}
use Rattle.grid_base.specs.Numbers.{vertices}
use Rattle.overflow_bounds.specs.MergedGraphs.{AreLinksOf}
use Rattle.overflow_bounds.proofs.Merging.{merged}
use Rattle.overflow_bounds.proofs.merged_graph.MergedGraph.of.Goals as goal

pub returns : goal.returns
returns g c =
    let s = c.args.size in
    let pieces = g.W.Weights.pieces c.args.weights.now in
    let nodes = c.in_ok-nodes.nodes.items in
    let links = c.in_ok-links.links.items in
    let long : length nodes ≡ vertices s = omega (
      arith,
      c.in_ok-nodes.ensures.long,
      c.as_slice.ensures.len,
      c.flatten.ensures.long,
      c.unite_free.ensures,
      c.in_ok-groups.ensures.long,
      c.vertices.ensures,
    ) in
    merged s pieces _ c.requires.flat long c.in_ok-nodes.ensures.inside
    (subst (λ (ns : List ℕ). AreLinksOf s pieces ns (2 * vertices s) links) c.as_slice-2.ensures.value c.in_ok-links.ensures)
