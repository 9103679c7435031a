use Rattle.std.proofs.Common.{◌≡◌, ◌-◌, length, ◌∙◌, arith}
use Rattle.grid_graph.specs.Grids.{edge_numbers}
use Rattle.sharing_runs.proofs.Kept.{tree_load-added}
use Rattle.routing_passes.proofs.TreeLimits.{tree_load-within}
use Rattle.routing_passes.proofs.loads.add_tree.Goals as goal

-- the last entry is the wirelength's
pub returns-clause-loads : goal.returns-clause-loads
returns-clause-loads c r =
    let g = c.args.grid.now in
    let loads = c.add_edges.new.loads in
    let long = c.add_edges.ensures.long ∙ c.requires.table in
    let last : edge_numbers g ≡ length loads - 1 = omega (arith, long) in
    rw (c.pieces.ensures.listed, ← last)
    (tree_load-added g c.args.width c.args.tree.now c.args.loads.now loads r c.requires.pieces long c.add_edges.ensures.loads)

pub returns-clause-limit : goal.returns-clause-limit
returns-clause-limit c r =
    let most = tree_load-within c.args.grid.now c.args.width c.args.tree.now r c.requires.width c.pieces.ensures.rising
    c.requires.pieces in
    omega (arith, returns-clause-loads c r, most)
