use Rattle.std.proofs.Common.{List, length, sym, ap, subst, arith}
use Rattle.grid_base.specs.declared.size.Size.{Size}
use Rattle.grid_base.specs.declared.vertex.Vertex.{Vertex}
use Rattle.grid_base.specs.Walks.{Joins, JoinsList, InVertices}
use Rattle.grid_graph.specs.Weighed.{IsAllowed}
use Rattle.grid_graph.specs.Grids.{size_of}
use Rattle.edge_prices.specs.KeptLists.{grid_of, vector_of}
use Rattle.edge_prices.specs.Weighings.{weighed_pieces, weighed_size}
use Rattle.edge_prices.specs.Weights.{piece_weight}
use Rattle.steiner_exact.specs.LeastSets.{IsLeastSet, IsLeastTree}
use Rattle.steiner_span.specs.LightTrees.{IsLightTree}
use Rattle.steiner_exact.proofs.TwoTerminals.{joined_vertices}
use Rattle.price_workers.proofs.LightSteps.{joined_by_pieces, none_weighs_nothing, step_from_least, step_from_light}
use Rattle.bound_climb.proofs.climb_sight.step_at.Goals as goal
use Rattle.bound_climb.proofs.climb_sight.step_at.Goals.{After-list-terminals}

-- the ground's pieces with their weights join what the net's list has
joined_listed : (c : After-list-terminals)
    → Joins (weighed_size c.weighing-weighing.result) (IsAllowed (weighed_pieces c.weighing-weighing.result)) (InVertices c.list-terminals.result.now)
joined_listed c =
    let kept = c.args.kept.now in
    let pieces = weighed_pieces c.weighing-weighing.result in
    subst (λ (z : Size). Joins z (IsAllowed pieces) (InVertices c.list-terminals.result.now)) (sym c.weighing-weighing.ensures.size)
    (subst (λ (ts : List Vertex). Joins (size_of (grid_of kept)) (IsAllowed pieces) (InVertices ts)) (sym c.list-terminals.ensures.items)
    (joined_by_pieces (grid_of kept) c.args.over (piece_weight (grid_of kept) c.args.net.now.width (vector_of kept)) pieces c.args.net.now
    c.weighing-weighing.ensures.pieces c.requires.ground))

pub least_tree-requires-clause-joined : goal.least_tree-requires-clause-joined
least_tree-requires-clause-joined c = joined_listed (goal.at.least_tree-requires-clause-joined c).After-list-terminals

pub least_tree-requires-clause-positive : goal.least_tree-requires-clause-positive
least_tree-requires-clause-positive c =
    none_weighs_nothing (grid_of c.args.kept.now) c.args.over c.args.net.now.width (vector_of c.args.kept.now) (weighed_pieces c.weighing-weighing.result) c.weighing-weighing.ensures.pieces

pub spanning_tree-requires-clause-joined : goal.spanning_tree-requires-clause-joined
spanning_tree-requires-clause-joined c = joined_listed (goal.at.spanning_tree-requires-clause-joined c).After-list-terminals

pub spanning_tree-requires-clause-terminals : goal.spanning_tree-requires-clause-terminals
spanning_tree-requires-clause-terminals c =
    let w = c.weighing-weighing.result in
    λ i d short. joined_vertices (weighed_size w) (IsAllowed (weighed_pieces w)) c.list-terminals.result.now (joined_listed (goal.at.spanning_tree-requires-clause-terminals c).After-list-terminals) i d short

pub spanning_tree-requires-clause-positive : goal.spanning_tree-requires-clause-positive
spanning_tree-requires-clause-positive c =
    none_weighs_nothing (grid_of c.args.kept.now) c.args.over c.args.net.now.width (vector_of c.args.kept.now) (weighed_pieces c.weighing-weighing.result) c.weighing-weighing.ensures.pieces

pub returns-then-terminals-gt-FEW_TERMINALS-clause-step : goal.returns-then-terminals-gt-FEW_TERMINALS-clause-step
returns-then-terminals-gt-FEW_TERMINALS-clause-step c =
    let n = c.args.net.now in
    let kept = c.args.kept.now in
    let pieces = weighed_pieces c.weighing-weighing.result in
    let s = weighed_size c.weighing-weighing.result in
    let terminals = c.list-terminals.result.now in
    let found = c.in_ok-found.found in
    let light : IsLightTree s pieces terminals found.0 found.1 = c.in_ok-found.ensures.tree in
    let there : IsLightTree (size_of (grid_of kept)) pieces n.terminals found.0 found.1 =
    subst (λ (z : Size). IsLightTree z pieces n.terminals found.0 found.1) c.weighing-weighing.ensures.size (subst (λ (ts : List Vertex). IsLightTree s pieces ts found.0 found.1) c.list-terminals.ensures.items light) in
    step_from_light (grid_of kept) n c.args.over (vector_of kept) pieces found.0 found.1 c.weighing-weighing.ensures.pieces
    (omega (arith, c.if-terminals-gt-FEW_TERMINALS.true, ap (λ (ts : List Vertex). length ts) c.list-terminals.ensures.items))
    c.requires.ground there

pub returns-clause-step : goal.returns-clause-step
returns-clause-step c =
    let n = c.args.net.now in
    let kept = c.args.kept.now in
    let pieces = weighed_pieces c.weighing-weighing.result in
    let s = weighed_size c.weighing-weighing.result in
    let terminals = c.list-terminals.result.now in
    let found = c.in_ok-found-2.found in
    let least : IsLeastTree s pieces terminals found.0 found.1 = c.in_ok-found-2.ensures.tree in
    let joined : JoinsList (size_of (grid_of kept)) found.0 n.terminals =
    subst (λ (z : Size). JoinsList z found.0 n.terminals) c.weighing-weighing.ensures.size (subst (JoinsList s found.0) c.list-terminals.ensures.items least.joins) in
    let lightest : IsLeastSet (size_of (grid_of kept)) pieces n.terminals found.0 =
    subst (λ (z : Size). IsLeastSet z pieces n.terminals found.0) c.weighing-weighing.ensures.size (subst (λ (ts : List Vertex). IsLeastSet s pieces ts found.0) c.list-terminals.ensures.items least.least) in
    step_from_least (grid_of kept) n c.args.over (vector_of kept) pieces found.0 c.weighing-weighing.ensures.pieces
    (omega (arith, c.if-terminals-gt-FEW_TERMINALS.false, ap (λ (ts : List Vertex). length ts) c.list-terminals.ensures.items))
    c.requires.ground least.rising joined lightest
