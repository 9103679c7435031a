use Rattle.std.proofs.Common.{ap, length, arith}
use Rattle.grid_graph.specs.declared.net_spec.NetSpec.{NetSpec}
use Rattle.route_judge.proofs.AllSets.{no_sets}
use Rattle.route_judge.proofs.net_sets.empty_sets.Goals as goal

pub returns : goal.returns
returns c =
    no_sets c.args.design.now c.loop-place.trees.items
    (omega (arith, c.loop-place.invariant.long, c.loop-place-test.false, c.loop-place.auto._place-end, ap (length {A = NetSpec}) c.list-place-end.ensures.items)) c.loop-place.invariant.empty
