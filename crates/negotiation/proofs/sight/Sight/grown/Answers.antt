use Rattle.std.proofs.Common.{◌<◌, length, arith}
use Rattle.std.proofs.lemmas.Option.{slice_get-get_or}
use Rattle.grid_graph.specs.declared.ground.Ground.{Ground}
use Rattle.grid_graph.specs.declared.net_spec.NetSpec.{NetSpec}
use Rattle.grid_graph.specs.Grounds.{IsGround}
use Rattle.negotiation.proofs.Found.{AllZip-long, At-read_of, found_route}
use Rattle.negotiation.proofs.sight.Sight.grown.Goals as goal

pub bounds-self-net : goal.bounds-self-net
bounds-self-net c =
    let d = c.args.self.now.design.now in
    omega (arith, AllZip-long (λ (x : NetSpec) (found : Ground). IsGround d.grid x.terminals found) d.nets c.args.self.now.grounds.now c.requires.sight.grounds)

pub tree-requires-clause-net : goal.tree-requires-clause-net
tree-requires-clause-net c =
    let d = c.args.self.now.design.now in
    d.limits.net c.args.net c.index-list-net.result
    (At-read_of d.nets c.list.result.now c.args.net c.index-list-net.result c.list.ensures.items c.index-list-net.is c.requires.net)

pub returns : goal.returns
returns c =
    let d = c.args.self.now.design.now in
    let grounds = c.args.self.now.grounds.now in
    let within : c.args.net < length grounds =
    omega (arith, c.requires.net, AllZip-long (λ (x : NetSpec) (found : Ground). IsGround d.grid x.terminals found) d.nets grounds c.requires.sight.grounds) in
    found_route d grounds c.args.net c.index-list-net.result _ c.tree.result c.requires.sight.grounds
    (At-read_of d.nets c.list.result.now c.args.net c.index-list-net.result c.list.ensures.items c.index-list-net.is c.requires.net)
    (slice_get-get_or grounds c.args.net _ within)
    c.tree.ensures.keeps c.tree.ensures.joins
