use Rattle.std.proofs.Common.{◌<◌, length, ap, arith, slice_index_or}
use Rattle.std.proofs.lemmas.Grind.{common_steps}
use Rattle.std.proofs.lemmas.Option.{slice_get-get_or, slice_get_within}
use Rattle.std.proofs.lemmas.Slice.Zip.{AllZip-long}
use Rattle.grid_base.proofs.Lists.{AllZip-at}
use Rattle.grid_graph.specs.declared.ground.Ground.{Ground}
use Rattle.grid_graph.specs.declared.ground.Ground.TheVariants.{Open}
use Rattle.grid_graph.specs.declared.net_spec.NetSpec.{NetSpec}
use Rattle.grid_graph.specs.Grounds.{IsGround}
use Rattle.routing_tests.proofs.worker_tests.repaired.Goals as goal

pub bounds-grounds-0 : goal.bounds-grounds-0
bounds-grounds-0 c =
    let d = c.args.design.now in
    let listed : 0 < length c.list.result.now = grind (arith, common_steps) in
    omega (arith, listed, ap length c.list.ensures.items, AllZip-long (λ m found. IsGround d.grid m.terminals found) d.nets c.args.grounds.now c.requires.grounds)

pub after_repair-requires-clause-ground : goal.after_repair-requires-clause-ground
after_repair-requires-clause-ground c n at =
    let d = c.args.design.now in
    let Its : NetSpec → Ground → Type 0 = λ m found. IsGround d.grid m.terminals found in
    let grounds = c.args.grounds.now in
    let within : 0 < length d.nets = slice_get_within d.nets 0 n at in
    AllZip-at Its d.nets grounds 0 n (slice_index_or grounds 0 Open) c.requires.grounds at
    (slice_get-get_or grounds 0 Open (omega (arith, within, AllZip-long Its d.nets grounds c.requires.grounds)))
