use Rattle.std.proofs.Common.{◌<◌, length, refl, ap, arith}
use Rattle.std.specs.List.{remove}
use Rattle.std.proofs.lemmas.List.{length-map}
use Rattle.grid_base.specs.Lists.{At}
use Rattle.grid_graph.specs.declared.net_spec.NetSpec.{NetSpec}
use Rattle.grid_graph.specs.Grids.{size_of}
use Rattle.price_workers.proofs.TurnFacts.{At-read}
use Rattle.tree_set.specs.Routings.{ArePieces}
use Rattle.eco_route.specs.NetIndices.{ids_of, IsIndexOf}
use Rattle.eco_route.specs.RoutedDesigns.{RoutedDesign}
use Rattle.eco_route.specs.Routers.{router_loads}
use Rattle.eco_route.proofs.Accepted.{drop_accepted}
use Rattle.eco_route.proofs.EcoFacts.{drop_step, each_at, has_id, id_here, id_within, load-had, net_of_id, net_read, once-ids, terminals-removed, IdsDiffer-removed, IsDesign-removed, IsEco-removed}
use Rattle.eco_route.proofs.eco.Eco.drop_net.Goals as goal
use Rattle.eco_route.proofs.eco.Eco.drop_net.Goals.{After-list, After-list-2, After-index}

abbrev held : (c : After-list) → RoutedDesign
held c = record { design = c.self.inside.design; sets = c.self.inside.trees.items }

-- the place of the net that goes
named : (c : After-list) → At (ids_of c.self.inside.design.nets) c.in_ok-place.place c.args.id
named c = id_here (held c) c.args.self.now c.in_ok-place.place c.args.id c.self.view_is c.in_ok-place.ensures.found

within : (c : After-list) → c.in_ok-place.place < length c.self.inside.design.nets
within c = id_within c.self.inside.design.nets c.in_ok-place.place c.args.id (named c)

in_trees : (c : After-list) → c.in_ok-place.place < length c.self.inside.trees.items
in_trees c = omega (arith, c.self.invariant.sets.one_each, within c)

net_at : (c : After-list-2) → c.in_ok-place.place < length c.self.inside.design.nets → At c.self.inside.design.nets c.in_ok-place.place c.index-list-place.result
net_at c short = net_read c.self.inside.design.nets c.list.result.now c.in_ok-place.place c.index-list-place.result c.list.ensures.items short c.index-list-place.is

pub offset_bounds-list-place : goal.offset_bounds-list-place
offset_bounds-list-place c = omega (arith, within (goal.at.offset_bounds-list-place c).After-list, c.self.inside.design.limits.count)

pub bounds-list-place : goal.bounds-list-place
bounds-list-place c = omega (arith, within (goal.at.bounds-list-place c).After-list, ap length c.list.ensures.items)

pub overflow_sub-self : goal.overflow_sub-self
overflow_sub-self c =
    let here = goal.at.overflow_sub-self c in
    omega (
      arith,
      ap length c.list-2.ensures.items,
      c.self.invariant.counted,
      terminals-removed c.self.inside.design.nets c.in_ok-place.place c.index-list-place.result (net_at here.After-list-2 (within here.After-list)),
    )

pub index-requires : goal.index-requires
index-requires c = omega (arith, in_trees (goal.at.index-requires c).After-list, c.self.inside.trees.ok.0)

-- the set of the net that goes
tree_at : (c : After-index) → c.in_ok-place.place < length c.self.inside.trees.items → At c.self.inside.trees.items c.in_ok-place.place c.index.result.now
tree_at c short = At-read c.self.inside.trees.items c.in_ok-place.place c.index.result.now c.index.ensures short

pub forget-requires-clause-width : goal.forget-requires-clause-width
forget-requires-clause-width c =
    let here = goal.at.forget-requires-clause-width c in
    (c.self.inside.design.limits.net c.in_ok-place.place c.index-list-place.result (net_at here.After-list-2 (within here.After-list))).width

pub forget-requires-clause-pieces : goal.forget-requires-clause-pieces
forget-requires-clause-pieces c =
    let here = goal.at.forget-requires-clause-pieces c in
    each_at (ArePieces (size_of c.self.inside.design.grid)) c.self.inside.trees.items c.self.invariant.sets.pieces c.in_ok-place.place c.index.result.now
    (tree_at here.After-index (in_trees here.After-list))

pub forget-requires-clause-had : goal.forget-requires-clause-had
forget-requires-clause-had c r =
    let s = c.self.inside in
    let here = goal.at.forget-requires-clause-had c in
    load-had s.design.grid s.design.nets s.trees.items c.in_ok-place.place c.index-list-place.result c.index.result.now (router_loads s.router)
    (net_at here.After-list-2 (within here.After-list)) (tree_at here.After-index (in_trees here.After-list)) c.self.invariant.loaded r

pub remove-requires : goal.remove-requires
remove-requires c =
    let nets = c.self.inside.design.nets in
    omega (arith, within (goal.at.remove-requires c).After-list, c.self.invariant.indexed.long, length-map nets (λ (n : NetSpec). n.id))

pub remove-requires-2 : goal.remove-requires-2
remove-requires-2 c = omega (arith, in_trees (goal.at.remove-requires-2 c).After-list, c.self.inside.trees.ok.0)

pub remove_net-requires-clause-ids : goal.remove_net-requires-clause-ids
remove_net-requires-clause-ids c = IdsDiffer-removed c.self.inside.design.nets c.in_ok-place.place c.self.inside.design.limits.ids

pub invariant_of-self-inside : goal.invariant_of-self-inside
invariant_of-self-inside c =
    let d = c.self.inside.design in
    let here = goal.at.invariant_of-self-inside c in
    record {
      limits = rw c.remove_net.ensures (IsDesign-removed d.grid d.nets c.in_ok-place.place c.index-list-place.result d.limits (net_at here.After-list-2 (within here.After-list)));
    }

pub invariant_of-self : goal.invariant_of-self
invariant_of-self c =
    let s = c.self.inside in
    let here = goal.at.invariant_of-self c in
    let indexed : IsIndexOf (remove (ids_of s.design.nets) c.in_ok-place.place) c.remove.new.self =
    c.remove.ensures (ids_of s.design.nets) c.self.invariant.indexed (once-ids s.design.nets s.design.limits.ids) (named here.After-list) in
    let all =
    IsEco-removed s.design.grid s.design.nets s.trees.items s.index c.remove.new.self s.terminals s.router c.forget.new.self c.in_ok-place.place c.index-list-place.result c.index.result.now
    c.self.invariant (net_at here.After-list-2 (within here.After-list)) (tree_at here.After-index (in_trees here.After-list)) indexed c.forget.ensures.router c.forget.ensures.loads in
    rw (c.remove_net.ensures, c.remove-2.ensures.items, c.list-2.ensures.items) all

pub returns-clause-step : goal.returns-clause-step
returns-clause-step c =
    let here = goal.at.returns-clause-step c in
    drop_step (held here.After-list) c.args.self.now c.args.id c.in_ok-place.place c.index-list-place.result _ c.remove-2.new.self.items c.self.view_is
    (net_at here.After-list-2 (within here.After-list))
    (has_id c.self.inside.design.nets c.in_ok-place.place c.args.id c.index-list-place.result (named here.After-list) (net_at here.After-list-2 (within here.After-list)))
    c.remove_net.ensures refl c.remove-2.ensures.items

pub returns-clause-accepted : goal.returns-clause-accepted
returns-clause-accepted c =
    let found = net_of_id c.args.self.now.design.nets c.in_ok-place.place c.args.id c.in_ok-place.ensures.found in
    drop_accepted c.args.self.now.design c.args.id c.in_ok-place.place found.0 found.1 found.2
