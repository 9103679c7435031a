use Rattle.std.proofs.Common.{◌<◌, length, arith}
use Rattle.routing_state.specs.States.{trees_of}
use Rattle.negotiation.proofs.DueNets.{overfull_net}
use Rattle.negotiation.proofs.negotiating.widen_if_overfull.Goals as goal

pub returns-then-holds_overfull-clause-same : goal.returns-then-holds_overfull-clause-same
returns-then-holds_overfull-clause-same c = λ other.
    let there : c.args.net < length (trees_of c.args.state.now) = omega (arith, c.requires.net, c.requires.state.sets.one_each) in
    absurd (other ((overfull_net c.args.design.now c.args.state.now c.args.net c.holds_overfull.result there c.holds_overfull.ensures).0 c.if-holds_overfull.true))
