use Rattle.std.proofs.Common.{◌≤◌, ℕ, List, All, None, get_or, length, sym, ◌∙◌, subst, arith}
use Rattle.std.proofs.lemmas.Option.{same_Some}
use Rattle.std.proofs.lemmas.Result.{IfOk-weaker}
use Rattle.grid_base.specs.declared.size.Size.{Size}
use Rattle.grid_base.specs.declared.vertex.Vertex.{Vertex}
use Rattle.grid_base.specs.Lists.{At}
use Rattle.grid_graph.specs.declared.grid.Grid.{Grid}
use Rattle.grid_graph.specs.declared.ground.Ground.TheVariants.{Open}
use Rattle.grid_graph.specs.declared.net_spec.NetSpec.{NetSpec}
use Rattle.grid_graph.specs.Grids.{size_of, IsNetWidth}
use Rattle.grid_graph.specs.Grounds.{IsGround}
use Rattle.dual_bound.specs.DesignBounds.{IsAtMostEachRoute}
use Rattle.dual_bound.proofs.NetsOf.{AllZip-length, net_stands, net_ground, net_width}
use Rattle.overflow_bounds.specs.declared.link.Link.{Link}
use Rattle.overflow_bounds.specs.ClassGraphs.{IsGraphOfClass}
use Rattle.overflow_bounds.specs.NetEnds.{IsNodeOfSome}
use Rattle.overflow_bounds.specs.NodeTables.{IsOfTable}
use Rattle.overflow_bounds.proofs.NetLows.{low_of_table, same_class}
use Rattle.overflow_bounds.proofs.lows.low_of_net.Goals as goal

pub bounds-grounds-place : goal.bounds-grounds-place
bounds-grounds-place c =
    let d = c.args.design.now in
    omega (arith, c.requires.place, AllZip-length (λ (n : NetSpec) found. IsGround d.grid n.terminals found) d.nets c.args.grounds.now c.requires.grounds)

pub renew-requires-clause-width : goal.renew-requires-clause-width
renew-requires-clause-width c =
    let d = c.args.design.now in
    let n = c.index-list-place.result in
    let at = net_stands d.nets c.list.result.now c.args.place n c.list.ensures.items c.requires.place c.index-list-place.is in
    subst (λ (g : Grid). IsNetWidth g n.width) (sym c.requires.class.grid) (net_width d c.args.place n at)

pub returns-clause-low : goal.returns-clause-low
returns-clause-low c =
    let d = c.args.design.now in
    let g = d.grid in
    let prices = c.args.reused.now.class.prices.now in
    let place = c.args.place in
    let m = c.index-list-place.result in
    let over = get_or c.args.grounds.now place Open in
    let class = c.renew.new.self in
    let ends = c.write_ends.new.ends.items in
    let at = net_stands d.nets c.list.result.now place m c.list.ensures.items c.requires.place c.index-list-place.is in
    let is_ground = net_ground g d.nets c.args.grounds.now place m Open c.requires.grounds c.requires.place at in
    let of : IsGraphOfClass g m.width over prices class.graph =
    same_class g class.grid.now m.width class.width over class.ground prices class.prices.now class.graph
    (c.renew.ensures.grid ∙ c.requires.class.grid) c.in_ok-renew.ensures.width c.in_ok-renew.ensures.ground (c.renew.ensures.prices ∙ c.requires.class.prices_of) c.in_ok-renew.ensures.current.graph in
    let each : All (IsNodeOfSome (size_of g) class.graph.nodes.items m.terminals) ends =
    subst (λ (s : Size). All (IsNodeOfSome s class.graph.nodes.items m.terminals) ends) c.size.ensures
    (subst (λ (nodes : List ℕ). All (IsNodeOfSome c.size.result nodes m.terminals) ends) c.as_slice.ensures.value
    (subst (λ (ts : List Vertex). All (IsNodeOfSome c.size.result c.as_slice.result.now ts) ends) c.list-2.ensures.items c.in_ok-write_ends.ensures.each)) in
    let two : 2 ≤ length ends = omega (arith, c.if-len-lt2.false, c.len.ensures, c.write_ends.new.ends.ok.0) in
    IfOk-weaker c.least_joining.result (IsOfTable class.graph.count c.as_slice-2.result.now c.as_slice-3.result.now)
    (λ low. (n : NetSpec) → At d.nets place n → IsAtMostEachRoute g prices None n low)
    (λ low table n stands. subst (λ (j : NetSpec). IsAtMostEachRoute g prices None j low) (same_Some _ _ (sym at ∙ stands))
    (low_of_table g prices m over class.graph ends low is_ground of each two
    (subst (λ (links : List Link). IsOfTable class.graph.count links ends low) c.as_slice-2.ensures.value
    (subst (λ (xs : List ℕ). IsOfTable class.graph.count c.as_slice-2.result.now xs low) c.as_slice-3.ensures.value table))))
    c.least_joining.ensures
