use Rattle.std.proofs.Common.{sym, subst}
use Rattle.grid_graph.specs.declared.grid.Grid.{Grid}
use Rattle.grid_graph.specs.Grounds.{IsGround}
use Rattle.eco_route.proofs.net_router.NetRouter.route.Goals as goal

pub route_net-found-requires-clause-ground : goal.route_net-found-requires-clause-ground
route_net-found-requires-clause-ground c = subst (λ (g : Grid). IsGround g c.args.net.now.terminals c.args.over) (sym c.awake-kept.ensures.grid) c.requires.ground
