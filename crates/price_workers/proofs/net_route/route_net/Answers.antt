use Rattle.std.proofs.Common.{List, length, sym, ap, subst, arith}
use Rattle.price_workers.proofs.Common.{Grid, size_of, IsGround, grid_of, vector_of, Size, Vertex, Joins, InVertices, IsAllowed}
use Rattle.price_workers.proofs.Common.{piece_weight, IsLeastTree, IsLightTree}
use Rattle.edge_prices.specs.Weighings.{weighed_pieces, weighed_size}
use Rattle.steiner_exact.proofs.TwoTerminals.{joined_vertices}
use Rattle.price_workers.proofs.LightSteps.{joined_by_pieces, none_weighs_nothing, step_from_least, step_from_light, step_moved}
use Rattle.price_workers.proofs.net_route.route_net.Goals.{After-list-terminals}
use Rattle.price_workers.proofs.net_route.route_net.Goals as goal

-- the net's ground is one in the keeper's grid
ground_kept : (c : After-list-terminals) → IsGround (grid_of c.renew.new.self) c.args.net.now.terminals c.args.over
ground_kept c = subst (λ (x : Grid). IsGround x c.args.net.now.terminals c.args.over) (sym c.renew.ensures.setting.grid) c.requires.ground

-- the ground's pieces with their weights join what the net's list has
joined_listed : (c : After-list-terminals)
    → Joins (weighed_size c.weighing-weighing.result) (IsAllowed (weighed_pieces c.weighing-weighing.result)) (InVertices c.list-terminals.result.now)
joined_listed c =
    let kept = c.renew.new.self in
    let pieces = weighed_pieces c.weighing-weighing.result in
    subst (λ (z : Size). Joins z (IsAllowed pieces) (InVertices c.list-terminals.result.now)) (sym c.weighing-weighing.ensures.size)
    (subst (λ (ts : List Vertex). Joins (size_of (grid_of kept)) (IsAllowed pieces) (InVertices ts)) (sym c.list-terminals.ensures.items)
    (joined_by_pieces (grid_of kept) c.args.over (piece_weight (grid_of kept) c.args.net.now.width (vector_of kept)) pieces c.args.net.now
    c.weighing-weighing.ensures.pieces (ground_kept c)))

pub least_tree-requires-clause-joined : goal.least_tree-requires-clause-joined
least_tree-requires-clause-joined c = joined_listed (goal.at.least_tree-requires-clause-joined c).After-list-terminals

pub least_tree-requires-clause-positive : goal.least_tree-requires-clause-positive
least_tree-requires-clause-positive c =
    none_weighs_nothing (grid_of c.renew.new.self) c.args.over c.args.net.now.width (vector_of c.renew.new.self) (weighed_pieces c.weighing-weighing.result) c.weighing-weighing.ensures.pieces

pub spanning_tree-requires-clause-joined : goal.spanning_tree-requires-clause-joined
spanning_tree-requires-clause-joined c = joined_listed (goal.at.spanning_tree-requires-clause-joined c).After-list-terminals

pub spanning_tree-requires-clause-terminals : goal.spanning_tree-requires-clause-terminals
spanning_tree-requires-clause-terminals c =
    let w = c.weighing-weighing.result in
    λ i d short. joined_vertices (weighed_size w) (IsAllowed (weighed_pieces w)) c.list-terminals.result.now (joined_listed (goal.at.spanning_tree-requires-clause-terminals c).After-list-terminals) i d short

pub spanning_tree-requires-clause-positive : goal.spanning_tree-requires-clause-positive
spanning_tree-requires-clause-positive c =
    none_weighs_nothing (grid_of c.renew.new.self) c.args.over c.args.net.now.width (vector_of c.renew.new.self) (weighed_pieces c.weighing-weighing.result) c.weighing-weighing.ensures.pieces

pub returns-then-terminals-gt-FEW_TERMINALS-clause-step : goal.returns-then-terminals-gt-FEW_TERMINALS-clause-step
returns-then-terminals-gt-FEW_TERMINALS-clause-step c =
    let n = c.args.net.now in
    let g : Grid = grid_of c.renew.new.self in
    let w = c.weighing-weighing in
    let pieces = weighed_pieces w.result in
    let found = c.in_ok-found.found in
    let light = subst (λ (ts : List Vertex). IsLightTree (weighed_size w.result) pieces ts found.0 found.1)
    c.list-terminals.ensures.items c.in_ok-found.ensures.tree in
    step_moved c.renew.ensures.setting.grid c.renew.ensures.loads c.renew.ensures.setting.scale c.renew.ensures.setting.budget
    (step_from_light g n c.args.over (vector_of c.renew.new.self) pieces found.0 found.1 w.ensures.pieces
    (omega (arith, c.if-terminals-gt-FEW_TERMINALS.true, ap (λ (ts : List Vertex). length ts) c.list-terminals.ensures.items))
    (ground_kept (goal.at.returns-then-terminals-gt-FEW_TERMINALS-clause-step c).After-list-terminals)
    (subst (λ (z : Size). IsLightTree z pieces n.terminals found.0 found.1) w.ensures.size light))

pub returns-clause-step : goal.returns-clause-step
returns-clause-step c =
    let n = c.args.net.now in
    let g : Grid = grid_of c.renew.new.self in
    let w = c.weighing-weighing in
    let pieces = weighed_pieces w.result in
    let found = c.in_ok-found-2.found in
    let listed = subst (λ (ts : List Vertex). IsLeastTree (weighed_size w.result) pieces ts found.0 found.1)
    c.list-terminals.ensures.items c.in_ok-found-2.ensures.tree in
    let least = subst (λ (z : Size). IsLeastTree z pieces n.terminals found.0 found.1) w.ensures.size listed in
    step_moved c.renew.ensures.setting.grid c.renew.ensures.loads c.renew.ensures.setting.scale c.renew.ensures.setting.budget
    (step_from_least g n c.args.over (vector_of c.renew.new.self) pieces found.0 w.ensures.pieces
    (omega (arith, c.if-terminals-gt-FEW_TERMINALS.false, ap (λ (ts : List Vertex). length ts) c.list-terminals.ensures.items))
    (ground_kept (goal.at.returns-clause-step c).After-list-terminals) least.rising least.joins least.least)
