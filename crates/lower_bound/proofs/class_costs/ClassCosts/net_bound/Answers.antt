use Rattle.std.proofs.Common.{List, sym, subst}
use Rattle.grid_base.specs.declared.vertex.Vertex.{Vertex}
use Rattle.grid_base.specs.Walks.{Joins, InVertices}
use Rattle.grid_graph.specs.Grids.{size_of}
use Rattle.grid_graph.specs.Weighed.{IsAllowed}
use Rattle.lower_bound.specs.ClassWords.{class_pieces}
use Rattle.lower_bound.proofs.Costed.{joined_by_costs}
use Rattle.lower_bound.proofs.class_costs.ClassCosts.net_bound.Goals as goal

pub bound_of_many-requires-clause-joined : goal.bound_of_many-requires-clause-joined
bound_of_many-requires-clause-joined c =
    let x = c.args.self.now in
    subst (λ (ts : List Vertex). Joins (size_of x.grid.now) (IsAllowed (class_pieces x)) (InVertices ts)) (sym c.list-terminals.ensures.items)
    (joined_by_costs x.grid.now x.width x.ground x.prices.now 0 c.args.net.now.terminals c.requires.ground)

pub least_cost-requires-clause-joined : goal.least_cost-requires-clause-joined
least_cost-requires-clause-joined c =
    let x = c.args.self.now in
    subst (λ (ts : List Vertex). Joins (size_of x.grid.now) (IsAllowed (class_pieces x)) (InVertices ts)) (sym c.list-terminals.ensures.items)
    (joined_by_costs x.grid.now x.width x.ground x.prices.now 0 c.args.net.now.terminals c.requires.ground)
