use Rattle.std.proofs.Common.{◌<◌, length, ap, arith, slice_index_or}
use Rattle.std.proofs.lemmas.Slice.Zip.{AllZip-long}
use Rattle.std.proofs.lemmas.Option.{slice_get-get_or, slice_get_within}
use Rattle.grid_base.proofs.Lists.{AllZip-at}
use Rattle.grid_graph.specs.declared.ground.Ground.{Ground}
use Rattle.grid_graph.specs.declared.ground.Ground.TheVariants.{Open}
use Rattle.grid_graph.specs.declared.net_spec.NetSpec.{NetSpec}
use Rattle.grid_graph.specs.Grounds.{IsGround}
use Rattle.routing_tests.proofs.worker_tests.routed.Goals as goal

pub bounds-grounds-net : goal.bounds-grounds-net
bounds-grounds-net c =
    let d = c.args.design.now in
    omega (arith, ap length c.list-nets.ensures.items, AllZip-long (λ m found. IsGround d.grid m.terminals found) d.nets c.args.grounds.now c.requires.grounds)

pub after_turn-requires-clause-ground : goal.after_turn-requires-clause-ground
after_turn-requires-clause-ground c n at =
    let d = c.args.design.now in
    let k = c.loop-net.net in
    let grounds = c.args.grounds.now in
    let Its : NetSpec → Ground → Type 0 = λ m found. IsGround d.grid m.terminals found in
    let within : k < length d.nets = slice_get_within d.nets k n at in
    AllZip-at Its d.nets grounds k n (slice_index_or grounds k Open) c.requires.grounds at
    (slice_get-get_or grounds k Open (omega (arith, within, AllZip-long Its d.nets grounds c.requires.grounds)))
