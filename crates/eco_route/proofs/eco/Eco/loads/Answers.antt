use Rattle.std.proofs.Common.{◌≡◌, ◌*◌, take, slice_index, ap, subst, arith}
use Rattle.grid_base.specs.Numbers.{vertices}
use Rattle.grid_graph.specs.Grids.{edge_numbers}
use Rattle.tree_set.specs.Loads.{load}
use Rattle.eco_route.specs.RoutedDesigns.{RoutedDesign}
use Rattle.eco_route.specs.Routers.{router_loads}
use Rattle.eco_route.proofs.Edges.{loads_of_edges}
use Rattle.eco_route.proofs.eco.Eco.loads.Goals as goal

pub returns-clause-loads : goal.returns-clause-loads
returns-clause-loads c e =
    let d = c.self.inside.design in
    let trees = c.self.inside.trees.items in
    let edges : 2 * c.vertices.result ≡ edge_numbers d.grid = omega (arith, c.vertices.ensures, ap (λ s. vertices s) c.size.ensures) in
    let here : slice_index (take (2 * c.vertices.result) c.loads.result.now) e ≡ load d.grid d.nets trees e =
    rw (edges, c.loads.ensures) (loads_of_edges d.grid d.nets trees (router_loads c.self.inside.router) c.self.invariant.sets.pieces c.self.invariant.loaded e) in
    subst (λ (x : RoutedDesign). slice_index (take (2 * c.vertices.result) c.loads.result.now) e ≡ load x.design.grid x.design.nets x.sets e) c.self.view_is here
