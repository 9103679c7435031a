use Rattle.grid_graph.proofs.Grounds.{at_place}
use Rattle.eco_route.proofs.EcoFacts.{each_at}
use Rattle.eco_cli.proofs.Reachable.{IsReachable}
use Rattle.eco_cli.proofs.reporting.ground_of.Goals as goal

pub unreachable-requires : goal.unreachable-requires
unreachable-requires c =
    let d = c.args.eco.now.design in
    let here = at_place d.nets c.args.net c.requires.net in
    (c.in-Err.ensures.cause here.0 here.1).apart (each_at (IsReachable d.grid) d.nets c.requires.reachable c.args.net here.0 here.1)
