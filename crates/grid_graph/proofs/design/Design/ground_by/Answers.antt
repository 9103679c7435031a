use Rattle.std.proofs.Common.{◌≡◌, subst}
use Rattle.grid_graph.specs.declared.net_spec.NetSpec.{NetSpec}
use Rattle.grid_base.specs.Lists.{At}
use Rattle.grid_graph.specs.Grounds.{IsGround, IsCutOff}
use Rattle.grid_graph.proofs.Grounds.{net_read}
use Rattle.grid_graph.proofs.design.Design.ground_by.Goals as goal
use Rattle.grid_graph.proofs.design.Design.ground_by.Goals.{After-ground_of}

-- the net that was read is the one at its place
is_net : (c : After-ground_of) (n : NetSpec) → At c.args.self.now.nets c.args.net n → c.index-list-net.result ≡ n
is_net c n at = net_read c.args.self.now.nets c.list.result.now c.args.net c.index-list-net.result n c.list.ensures.items c.requires.net c.index-list-net.is at

pub returns-in-Ok-clause-found : goal.returns-in-Ok-clause-found
returns-in-Ok-clause-found c n at =
    let g = c.args.self.now.grid in
    subst (λ (m : NetSpec). IsGround g m.terminals c.in-Ok.found) (is_net (goal.at.returns-in-Ok-clause-found c).After-ground_of n at) (c.in-Ok.ensures.found g c.requires.components)

pub returns-in-Err-clause-cause : goal.returns-in-Err-clause-cause
returns-in-Err-clause-cause c n at =
    let g = c.args.self.now.grid in
    subst (λ (m : NetSpec). IsCutOff g m c.in-Err.unreachable.id c.in-Err.unreachable.terminal) (is_net (goal.at.returns-in-Err-clause-cause c).After-ground_of n at) (c.in-Err.ensures.cause g c.requires.components)
