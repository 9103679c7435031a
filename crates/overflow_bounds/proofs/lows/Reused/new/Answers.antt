use Rattle.std.proofs.Common.{subst, arith}
use Rattle.grid_graph.specs.declared.net_spec.NetSpec.{NetSpec}
use Rattle.grid_graph.specs.Grids.{IsNetWidth}
use Rattle.grid_graph.specs.Grounds.{IsGround}
use Rattle.dual_bound.proofs.NetsOf.{AllZip-length, net_stands, net_width}
use Rattle.overflow_bounds.proofs.lows.Reused.new.Goals as goal

pub bounds-grounds-place : goal.bounds-grounds-place
bounds-grounds-place c =
    let d = c.args.design.now in
    omega (arith, c.requires.place, AllZip-length (λ (n : NetSpec) found. IsGround d.grid n.terminals found) d.nets c.args.grounds.now c.requires.grounds)

pub new-requires-clause-width : goal.new-requires-clause-width
new-requires-clause-width c =
    let d = c.args.design.now in
    let n = c.index-list-place.result in
    subst (λ (m : NetSpec). IsNetWidth d.grid m.width) c.index-list-place.is
    (net_width d c.args.place n (net_stands d.nets c.list.result.now c.args.place n c.list.ensures.items c.requires.place c.index-list-place.is))
