use Rattle.std.proofs.Common.{◌≡◌, ◌≤◌, sym, subst, All}
use Rattle.grid_graph.specs.Grids.{size_of}
use Rattle.route_judge.proofs.RunningSums.{load-limit}
use Rattle.eco_route.proofs.EcoFacts.{each_at}
use Rattle.tree_set.specs.Limits.{max_routing_load}
use Rattle.tree_set.specs.Loads.{load}
use Rattle.tree_set.specs.Routings.{ArePieces}
use Rattle.eco_cli.proofs.reporting.measure.Goals as goal

pub measure_of_loads-requires-clause-room : goal.measure_of_loads-requires-clause-room
measure_of_loads-requires-clause-room c e =
    let d = c.args.eco.now.design in
    let sets = c.args.eco.now.sets in
    let pieces : All (ArePieces (size_of d.grid)) sets = subst (All (ArePieces (size_of d.grid))) c.trees.ensures.sets c.trees.ensures.of_design.pieces in
    subst (λ n. n ≤ max_routing_load) (sym (c.loads.ensures.loads e)) (load-limit d sets e (λ k n tree net set. each_at (ArePieces (size_of d.grid)) sets pieces k tree set))

pub returns-clause-overflow : goal.returns-clause-overflow
returns-clause-overflow c =
    let d = c.args.eco.now.design in
    rw c.design-design.ensures at (c.measure_of_loads.ensures.overflow (load d.grid d.nets c.args.eco.now.sets) c.loads.ensures.loads)

pub returns-clause-peak : goal.returns-clause-peak
returns-clause-peak c =
    let d = c.args.eco.now.design in
    rw c.design-design.ensures at (c.measure_of_loads.ensures.peak (load d.grid d.nets c.args.eco.now.sets) c.loads.ensures.loads)

pub measure_of_loads-requires-clause-table : goal.measure_of_loads-requires-clause-table
measure_of_loads-requires-clause-table c = rw c.design-design.ensures c.loads.ensures.long
