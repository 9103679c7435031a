use Rattle.std.proofs.Common.{◌≡◌, ℕ, ◌+◌, ◌<◌, ◌≤◌, List, get_or, take, sym, ◌∙◌, ap, subst, ⊎_elim, arith}
use Rattle.std.proofs.lemmas.Bool.{cases_lt}
use Rattle.std.proofs.lemmas.List.{take_all, length-take}
use Rattle.std.proofs.lemmas.Option.{same_Some, slice_get_within, slice_get-get_or}
use Rattle.grid_base.specs.declared.piece.Piece.{Piece}
use Rattle.grid_base.specs.Lists.{At}
use Rattle.grid_graph.specs.declared.net_spec.NetSpec.{NetSpec}
use Rattle.grid_graph.specs.Grids.{size_of}
use Rattle.price_workers.proofs.NetLoads.{load_on-next}
use Rattle.sharing_runs.proofs.Between.{load_on-none}
use Rattle.tree_set.specs.Loads.{load_on, tree_load}
use Rattle.tree_set.specs.Order.{IsRising}
use Rattle.tree_set.specs.Routings.{ArePieces}
use Rattle.eco_route.specs.Routers.{router_loads}
use Rattle.eco_route.proofs.EcoFacts.{all_from, each_at, room_of}
use Rattle.eco_route.proofs.Indices.{take_at}
use Rattle.eco_route.proofs.opening.loaded_router.Goals as goal
use Rattle.eco_route.proofs.opening.loaded_router.Goals.{After-rising-tree}

-- the net whose set it is
abbrev net_of : (c : After-rising-tree) → NetSpec
net_of c = get_or c.list.result.now c.loop-net.net c.index-list-net.result

net_at : (c : After-rising-tree) → At c.args.design.now.nets c.loop-net.net (net_of c)
net_at c =
    let nets = c.args.design.now.nets in
    let k = c.loop-net.net in
    let read = c.index-list-net.result in
    subst (λ (ns : List NetSpec). At nets k (get_or ns k read)) (sym c.list.ensures.items)
    (slice_get-get_or nets k read (omega (arith, c.loop-net-test.true, c.requires.sets.one_each)))

-- the set
tree_at : (c : After-rising-tree) → At c.args.trees.now c.loop-net.net c.rising-tree.result.now
tree_at c =
    let trees = c.args.trees.now in
    let read = c.index-trees-net.result in
    subst (λ (t : List Piece). At trees c.loop-net.net t) (sym (c.rising-tree.ensures.same ∙ c.index-trees-net.is)) (slice_get-get_or trees c.loop-net.net read c.loop-net-test.true)

pub loop-net-init : goal.loop-net-init
loop-net-init c = record {
  routed = c.in_ok-router.ensures.router;
  rising = λ k tree below. absurd (omega (arith, below));
  loaded = λ r. c.in_ok-router.ensures.loads r ∙ sym (load_on-none c.args.design.now.grid c.args.design.now.nets r);
}

pub notice-requires-clause-width : goal.notice-requires-clause-width
notice-requires-clause-width c =
    let here = (goal.at.notice-requires-clause-width c).After-rising-tree in
    (c.args.design.now.limits.net c.loop-net.net (net_of here) (net_at here)).width

pub notice-requires-clause-pieces : goal.notice-requires-clause-pieces
notice-requires-clause-pieces c =
    let here = (goal.at.notice-requires-clause-pieces c).After-rising-tree in
    each_at (ArePieces (size_of c.args.design.now.grid)) c.args.trees.now c.requires.sets.pieces c.loop-net.net c.rising-tree.result.now (tree_at here)

pub notice-requires-clause-room : goal.notice-requires-clause-room
notice-requires-clause-room c r =
    let d = c.args.design.now in
    let trees = c.args.trees.now in
    let k = c.loop-net.net in
    let so_far = take k trees in
    room_of d.grid d.nets so_far (router_loads c.loop-net.router) d.limits (omega (arith, length-take k trees, c.requires.sets.one_each))
    (λ j t at. let here = take_at trees k j t at in c.loop-net.invariant.rising j t here.1 here.0)
    (λ j t at. each_at (ArePieces (size_of d.grid)) trees c.requires.sets.pieces j t (take_at trees k j t at).0) c.loop-net.invariant.loaded r

pub loop-net-preserved : goal.loop-net-preserved
loop-net-preserved c =
    let d = c.args.design.now in
    let trees = c.args.trees.now in
    let k = c.loop-net.net in
    let here = (goal.at.loop-net-preserved c).After-rising-tree in
    let n = net_of here in
    let tree = c.rising-tree.result.now in
    record {
      routed = c.notice.ensures.router;
      rising = λ j t below at. ⊎_elim
          (λ (early : j < k). c.loop-net.invariant.rising j t early at)
          (λ (late : k ≤ j).
          let same : j ≡ k = omega (arith, below, late) in
          subst IsRising (same_Some tree t (sym (tree_at here) ∙ subst (λ (i : ℕ). At trees i t) same at)) c.rising-tree.ensures.rising)
          (cases_lt j k);
      loaded = λ r. c.notice.ensures.loads r ∙ ap (λ x. x + tree_load d.grid n.width tree r) (c.loop-net.invariant.loaded r)
          ∙ sym (load_on-next d.grid d.nets trees k n tree r (net_at here) (tree_at here));
    }

pub returns-clause-rising : goal.returns-clause-rising
returns-clause-rising c =
    all_from IsRising c.args.trees.now (λ k t at. c.loop-net.invariant.rising k t (omega (arith, slice_get_within c.args.trees.now k t at, c.loop-net-test.false)) at)

pub returns-clause-loads : goal.returns-clause-loads
returns-clause-loads c r =
    let d = c.args.design.now in
    c.loop-net.invariant.loaded r ∙ ap (λ ts. load_on d.grid d.nets ts r) (take_all c.loop-net.net c.args.trees.now (omega (arith, c.loop-net-test.false)))
