use Rattle.std.proofs.Common.{◌≡◌, ◌+◌, ◌<◌, ◌≤◌, length, refl, sym, ap, subst, arith}
use Rattle.std.specs.Prelude.{None, slice_set}
use Rattle.std.specs.List.{remove}
use Rattle.grid_base.specs.Lists.{At}
use Rattle.grid_graph.specs.declared.design.Design.{Design}
use Rattle.grid_graph.specs.declared.net_spec.NetSpec.{NetSpec}
use Rattle.grid_graph.specs.Grids.{size_of}
use Rattle.grid_graph.specs.Grounds.{IsGround}
use Rattle.grid_graph.specs.Limits.{max_pins}
use Rattle.grid_graph.specs.Nets.{IsDesign, IsNet}
use Rattle.price_workers.specs.TreeLoads.{without_tree}
use Rattle.price_workers.proofs.TurnFacts.{At-read, step_pieces}
use Rattle.sharing_runs.specs.NetSteps.{IsStep}
use Rattle.tree_set.specs.Routings.{ArePieces}
use Rattle.eco_route.specs.EditRefusals.{terminals_of}
use Rattle.eco_route.specs.RoutedDesigns.{RoutedDesign}
use Rattle.eco_route.specs.Routers.{router_loads}
use Rattle.eco_route.specs.Scales.{eco_scale}
use Rattle.eco_route.proofs.EcoFacts.{each_at, has_room, load-had, net_read, IsDesign-set, IsEco-rerouted, IsEco-set}
use Rattle.eco_route.proofs.StepFacts.{loads_without_are, rewired}
use Rattle.eco_route.proofs.eco.Eco.rewire.Goals as goal
use Rattle.eco_route.proofs.eco.Eco.rewire.Goals.{After-list, After-list-had, After-index}

abbrev held : (c : After-list) → RoutedDesign
held c = record { design = c.self.inside.design; sets = c.self.inside.trees.items }

-- the design that it holds is the one that is seen
seen : (c : After-list) → c.self.inside.design ≡ c.args.self.now.design
seen c = ap (λ (x : RoutedDesign). x.design) c.self.view_is

within : (c : After-list) → c.args.place < length c.self.inside.design.nets
within c = subst (λ (d : Design). c.args.place < length d.nets) (sym (seen c)) c.requires.place

in_trees : (c : After-list) → c.args.place < length c.self.inside.trees.items
in_trees c = omega (arith, c.self.invariant.sets.one_each, within c)

fits : (c : After-list) → IsNet c.self.inside.design.grid c.args.net
fits c = subst (λ (d : Design). IsNet d.grid c.args.net) (sym (seen c)) c.requires.net

few : (c : After-list) → terminals_of (remove c.self.inside.design.nets c.args.place) + length c.args.net.terminals ≤ max_pins
few c = subst (λ (d : Design). terminals_of (remove d.nets c.args.place) + length c.args.net.terminals ≤ max_pins) (sym (seen c)) c.requires.pins

-- the net that stood there
net_at : (c : After-list-had) → c.args.place < length c.self.inside.design.nets → At c.self.inside.design.nets c.args.place c.index-list-place.result
net_at c short = net_read c.self.inside.design.nets c.list.result.now c.args.place c.index-list-place.result c.list.ensures.items short c.index-list-place.is

-- and its set
tree_at : (c : After-index) → c.args.place < length c.self.inside.trees.items → At c.self.inside.trees.items c.args.place c.index.result.now
tree_at c short = At-read c.self.inside.trees.items c.args.place c.index.result.now c.index.ensures short

same_id : (c : After-list) (n : NetSpec) → At c.self.inside.design.nets c.args.place n → n.id ≡ c.args.net.id
same_id c n at = subst (λ (d : Design). (m : NetSpec) → At d.nets c.args.place m → m.id ≡ c.args.net.id) (sym (seen c)) c.requires.same n at

pub offset_bounds-list-place : goal.offset_bounds-list-place
offset_bounds-list-place c = omega (arith, within (goal.at.offset_bounds-list-place c).After-list, c.self.inside.design.limits.count)

pub bounds-list-place : goal.bounds-list-place
bounds-list-place c = omega (arith, within (goal.at.bounds-list-place c).After-list, ap length c.list.ensures.items)

pub index-requires : goal.index-requires
index-requires c = omega (arith, in_trees (goal.at.index-requires c).After-list, c.self.inside.trees.ok.0)

pub reroute-requires-clause-old_width : goal.reroute-requires-clause-old_width
reroute-requires-clause-old_width c =
    let here = goal.at.reroute-requires-clause-old_width c in
    (c.self.inside.design.limits.net c.args.place c.index-list-place.result (net_at here.After-list-had (within here.After-list))).width

pub reroute-requires-clause-old_pieces : goal.reroute-requires-clause-old_pieces
reroute-requires-clause-old_pieces c =
    let here = goal.at.reroute-requires-clause-old_pieces c in
    each_at (ArePieces (size_of c.self.inside.design.grid)) c.self.inside.trees.items c.self.invariant.sets.pieces c.args.place c.index.result.now (tree_at here.After-index (in_trees here.After-list))

pub reroute-requires-clause-had : goal.reroute-requires-clause-had
reroute-requires-clause-had c r =
    let s = c.self.inside in
    let here = goal.at.reroute-requires-clause-had c in
    load-had s.design.grid s.design.nets s.trees.items c.args.place c.index-list-place.result c.index.result.now (router_loads s.router)
    (net_at here.After-list-had (within here.After-list)) (tree_at here.After-index (in_trees here.After-list)) c.self.invariant.loaded r

pub reroute-requires-clause-room : goal.reroute-requires-clause-room
reroute-requires-clause-room c r =
    let s = c.self.inside in
    has_room s.design.grid s.design.nets s.trees.items (router_loads s.router) s.design.limits c.self.invariant.sets c.self.invariant.rising c.self.invariant.loaded r

pub reroute-requires-clause-width : goal.reroute-requires-clause-width
reroute-requires-clause-width c = (fits (goal.at.reroute-requires-clause-width c).After-list).width

pub reroute-requires-clause-ground : goal.reroute-requires-clause-ground
reroute-requires-clause-ground c =
    subst (λ (d : Design). IsGround d.grid c.args.net.terminals c.args.over) (sym (seen (goal.at.reroute-requires-clause-ground c).After-list)) c.requires.ground

pub invariant_of-self : goal.invariant_of-self
invariant_of-self c =
    let s = c.self.inside in
    IsEco-rerouted s.design.grid s.design.nets s.trees.items s.index s.terminals s.router c.reroute.new.self c.self.invariant c.reroute.ensures.router c.in_err-tree.ensures.as_before

pub index_mut-requires : goal.index_mut-requires
index_mut-requires c = omega (arith, in_trees (goal.at.index_mut-requires c).After-list, c.self.inside.trees.ok.0)

pub set_net-requires-clause-place : goal.set_net-requires-clause-place
set_net-requires-clause-place c = within (goal.at.set_net-requires-clause-place c).After-list

-- the design with the net in place of the one that stood there
whole : (c : After-list) (n : NetSpec) → At c.self.inside.design.nets c.args.place n → IsDesign c.self.inside.design.grid (slice_set c.self.inside.design.nets c.args.place c.args.net)
whole c n at =
    let d = c.self.inside.design in
    IsDesign-set d.grid d.nets c.args.place n c.args.net d.limits at (same_id c n at) (fits c) (few c)

pub set_net-requires-clause-ids : goal.set_net-requires-clause-ids
set_net-requires-clause-ids c =
    let here = goal.at.set_net-requires-clause-ids c in
    (whole here.After-list c.index-list-place.result (net_at here.After-list-had (within here.After-list))).ids

pub invariant_of-self-inside : goal.invariant_of-self-inside
invariant_of-self-inside c =
    let here = goal.at.invariant_of-self-inside c in
    record { limits = rw c.set_net.ensures (whole here.After-list c.index-list-place.result (net_at here.After-list-had (within here.After-list))) }

pub invariant_of-self-2 : goal.invariant_of-self-2
invariant_of-self-2 c =
    let s = c.self.inside in
    let g = s.design.grid in
    let here = goal.at.invariant_of-self-2 c in
    let before = net_at here.After-list-had (within here.After-list) in
    let step = c.in_ok-tree.ensures.step in
    let all =
    IsEco-set g s.design.nets s.trees.items s.index s.terminals s.router c.reroute.new.self (without_tree g c.index-list-place.result.width c.index.result.now (router_loads s.router))
    c.args.place c.index-list-place.result c.args.net c.index.result.now c.in_ok-tree.tree c.self.invariant before (tree_at here.After-index (in_trees here.After-list))
    (same_id here.After-list c.index-list-place.result before) (step_pieces g c.args.net _ c.in_ok-tree.tree step) step.set c.in_ok-tree.ensures.router refl c.in_ok-tree.ensures.gained in
    rw (c.set_net.ensures, c.list-had.ensures.items, c.list-2.ensures.items) all

pub returns-clause-rewired : goal.returns-clause-rewired
returns-clause-rewired c =
    let s = c.self.inside in
    let here = goal.at.returns-clause-rewired c in
    let others = loads_without_are s.design.grid s.design.nets s.trees.items c.args.place c.index-list-place.result c.index.result.now (router_loads s.router)
    (net_at here.After-list-had (within here.After-list)) (tree_at here.After-index (in_trees here.After-list)) c.self.invariant.routed.priced.kept.loaded.long c.self.invariant.loaded in
    let step = subst (λ seen. IsStep s.design.grid c.args.net seen eco_scale None c.in_ok-tree.tree) others c.in_ok-tree.ensures.step in
    rewired (held here.After-list) c.args.self.now _ c.args.place c.args.net c.in_ok-tree.tree c.self.view_is step refl c.set_net.ensures refl
