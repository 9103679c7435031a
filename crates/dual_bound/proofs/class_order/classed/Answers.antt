use Rattle.std.proofs.Common.{arith}
use Rattle.grid_graph.specs.declared.net_spec.NetSpec.{NetSpec}
use Rattle.grid_graph.specs.Grounds.{IsGround}
use Rattle.dual_bound.proofs.NetsOf.{AllZip-length}
use Rattle.dual_bound.proofs.class_order.classed.Goals as goal

pub bounds-grounds-place : goal.bounds-grounds-place
bounds-grounds-place c =
    let d = c.args.design.now in
    omega (arith, c.requires.place, AllZip-length (λ (n : NetSpec) found. IsGround d.grid n.terminals found) d.nets c.args.grounds.now c.requires.grounds)
