use Rattle.std.proofs.Common.{◌≡◌, ◌<◌, List, length, take, slice_index_or, refl, ap, subst, arith}
use Rattle.std.proofs.lemmas.List.{take_all}
use Rattle.std.proofs.lemmas.Slice.Zip.{AllZip-long}
use Rattle.grid_base.specs.declared.piece.Piece.{Piece}
use Rattle.grid_base.specs.Lists.{At}
use Rattle.grid_base.proofs.Lists.{AllZip-at}
use Rattle.grid_graph.specs.declared.grid.Grid.{Grid}
use Rattle.grid_graph.specs.declared.net_spec.NetSpec.{NetSpec}
use Rattle.edge_prices.specs.KeptLists.{loads_of}
use Rattle.tree_set.specs.Order.{IsRising}
use Rattle.tree_set.specs.Routings.{IsRoute}
use Rattle.price_workers.proofs.TurnFacts.{read_at, At-read, route_pieces}
use Rattle.sharing_runs.proofs.Kept.{KeepsSetting-trans}
use Rattle.bound_climb.specs.ClimbTurns.{GainsSets}
use Rattle.bound_climb.proofs.ClimbLoads.{gains_none, gains_next, room_left}
use Rattle.bound_climb.proofs.climb_loads.notice_sets.Goals as goal
use Rattle.bound_climb.proofs.climb_loads.notice_sets.Goals.{After-index-trees-net}

abbrev RisingRoute : Grid → NetSpec → List Piece → Type 0
RisingRoute g n tree = IsRoute g n tree × IsRising tree

pub loop-net-init : goal.loop-net-init
loop-net-init c = record {
  gains = gains_none c.args.design.now.grid c.args.design.now.nets (loads_of c.args.kept.now);
  setting = record { grid = refl; scale = refl; budget = refl };
}

pub bounds-trees-net : goal.bounds-trees-net
bounds-trees-net c =
    let d = c.args.design.now in
    omega (arith, c.loop-net-test.true, ap length c.list-nets.ensures.items, AllZip-long (RisingRoute d.grid) d.nets c.args.trees.now c.requires.sets)

-- the net whose turn it is, and its set
abbrev net_of : (c : After-index-trees-net) → NetSpec
net_of c = slice_index_or c.list-nets.result.now c.loop-net.net c.index-nets-net.result

among : (c : After-index-trees-net) → c.loop-net.net < length c.args.trees.now
among c =
    let d = c.args.design.now in
    omega (arith, c.loop-net-test.true, ap length c.list-nets.ensures.items, AllZip-long (RisingRoute d.grid) d.nets c.args.trees.now c.requires.sets)

net_at : (c : After-index-trees-net) → At c.args.design.now.nets c.loop-net.net (net_of c)
net_at c = read_at c.args.design.now.nets c.list-nets.result.now c.loop-net.net c.index-nets-net.result c.list-nets.ensures.items c.loop-net-test.true

set_at : (c : After-index-trees-net) → At c.args.trees.now c.loop-net.net c.index-trees-net.result
set_at c = At-read c.args.trees.now c.loop-net.net c.index-trees-net.result c.index-trees-net.is (among c)

route_of : (c : After-index-trees-net) → RisingRoute c.args.design.now.grid (net_of c) c.index-trees-net.result
route_of c =
    let d = c.args.design.now in
    AllZip-at (RisingRoute d.grid) d.nets c.args.trees.now c.loop-net.net (net_of c) c.index-trees-net.result c.requires.sets (net_at c) (set_at c)

pub notice_tree-requires-clause-width : goal.notice_tree-requires-clause-width
notice_tree-requires-clause-width c =
    let here = (goal.at.notice_tree-requires-clause-width c).After-index-trees-net in
    (c.args.design.now.limits.net c.loop-net.net (net_of here) (net_at here)).width

pub notice_tree-requires-clause-pieces : goal.notice_tree-requires-clause-pieces
notice_tree-requires-clause-pieces c =
    let here = (goal.at.notice_tree-requires-clause-pieces c).After-index-trees-net in
    route_pieces c.args.design.now.grid (net_of here) c.index-trees-net.result (route_of here).0

pub notice_tree-requires-clause-room : goal.notice_tree-requires-clause-room
notice_tree-requires-clause-room c =
    let d = c.args.design.now in
    let here = (goal.at.notice_tree-requires-clause-room c).After-index-trees-net in
    room_left d.grid d.nets c.args.trees.now c.loop-net.net (loads_of c.args.kept.now) (loads_of c.loop-net.kept) (among here) c.requires.room c.loop-net.invariant.gains

pub loop-net-preserved : goal.loop-net-preserved
loop-net-preserved c =
    let d = c.args.design.now in
    let here = (goal.at.loop-net-preserved c).After-index-trees-net in
    let route = route_of here in
    record {
      gains = gains_next d.grid d.nets c.args.trees.now c.loop-net.net (net_of here) c.index-trees-net.result (loads_of c.args.kept.now) (loads_of c.loop-net.kept) (loads_of c.notice_tree.new.kept)
          (net_at here) (set_at here) (d.limits.net c.loop-net.net (net_of here) (net_at here)).width route.1 (route_pieces d.grid (net_of here) c.index-trees-net.result route.0)
          c.loop-net.invariant.gains c.notice_tree.ensures.seen;
      setting = KeepsSetting-trans c.args.kept.now c.loop-net.kept c.notice_tree.new.kept c.loop-net.invariant.setting c.notice_tree.ensures.setting;
    }

pub returns-clause-loads : goal.returns-clause-loads
returns-clause-loads c =
    let d = c.args.design.now in
    let trees = c.args.trees.now in
    let whole : take c.loop-net.net trees ≡ trees =
    take_all c.loop-net.net trees (omega (arith, c.loop-net-test.false, ap length c.list-nets.ensures.items, AllZip-long (RisingRoute d.grid) d.nets trees c.requires.sets)) in
    subst (λ (ts : List (List Piece)). GainsSets d.grid d.nets ts (loads_of c.args.kept.now) (loads_of c.loop-net.kept)) whole c.loop-net.invariant.gains
