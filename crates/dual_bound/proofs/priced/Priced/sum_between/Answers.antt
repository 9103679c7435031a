use Rattle.std.proofs.Common.{◌≡◌, ◌-◌, All, length, sym, ◌∙◌, ap, subst, arith}
use Rattle.std.specs.List.{sum}
use Rattle.std.proofs.lemmas.List.{with_items_is}
use Rattle.grid_graph.specs.declared.net_spec.NetSpec.{NetSpec}
use Rattle.grid_graph.specs.Grids.{IsNetWidth}
use Rattle.grid_graph.specs.Grounds.{IsGround}
use Rattle.dual_bound.specs.ClassOrders.{HasBoundOf}
use Rattle.dual_bound.proofs.ClassOrders.{bounds_of_part}
use Rattle.dual_bound.proofs.NetsOf.{AllZip-length, net_stands, net_width}
use Rattle.dual_bound.proofs.priced.Priced.sum_between.Goals as goal

pub bounds-self-from : goal.bounds-self-from
bounds-self-from c =
    let p = c.args.self.now in
    let d = p.design.now in
    omega (arith, c.requires.order, c.if-from-to.false, c.requires.inside, AllZip-length (λ (n : NetSpec) found. IsGround d.grid n.terminals found) d.nets p.grounds.now c.requires.grounds)

pub new-requires-clause-width : goal.new-requires-clause-width
new-requires-clause-width c =
    let d = c.args.self.now.design.now in
    let n = c.index-list-from.result in
    let at = net_stands d.nets c.list.result.now c.args.from n c.list.ensures.items (omega (arith, c.requires.order, c.if-from-to.false, c.requires.inside)) c.index-list-from.is in
    subst (λ (m : NetSpec). IsNetWidth d.grid m.width) c.index-list-from.is (net_width d c.args.from n at)

pub write_bounds-requires-clause-labels : goal.write_bounds-requires-clause-labels
write_bounds-requires-clause-labels c = c.in_ok-labels.ensures c.in_ok-costs.costs (sym c.size.ensures)

pub returns : goal.returns
returns c =
    let p = c.args.self.now in
    let from = c.args.from in
    let to = c.args.to in
    let new = c.write_bounds.new.bounds in
    let written = with_items_is c.in_ok-bounds.bounds new (c.write_bounds.auto.bounds ∙ c.as_mut_slice.ensures.len) in
    let read : c.as_slice-2.result.now ≡ new = c.as_slice-2.ensures.value ∙ written in
    let listed : All (HasBoundOf p from new) c.in_ok-nets.nets.items = subst (All (HasBoundOf p from new)) c.as_slice.ensures.value c.in_ok-write_bounds.ensures.bounds in
    let long : length new ≡ to - from = omega (arith, c.in_ok-write_bounds.ensures.long, c.as_mut_slice.ensures.len, c.as_mut_slice.ensures.value, c.in_ok-bounds.ensures.len, c.in_ok-bounds.bounds.ok.0) in
    record {
      bounds = new;
      each = bounds_of_part p from to new c.in_ok-nets.nets.items c.requires.order c.requires.inside long c.in_ok-nets.ensures.whole listed;
      sums = c.total_of.ensures ∙ ap sum read;
    }
