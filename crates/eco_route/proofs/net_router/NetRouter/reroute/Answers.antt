use Rattle.std.proofs.Common.{◌≡◌, ◌+◌, ◌∙◌, ap, subst}
use Rattle.std.specs.Prelude.{None, slice_index}
use Rattle.price_workers.specs.TreeLoads.{without_tree}
use Rattle.price_workers.proofs.TurnFacts.{step_pieces}
use Rattle.sharing_runs.specs.NetSteps.{IsStep}
use Rattle.tree_set.specs.Loads.{tree_load}
use Rattle.eco_route.specs.Routers.{router_loads}
use Rattle.eco_route.specs.Scales.{eco_scale}
use Rattle.eco_route.proofs.EcoFacts.{put_again, room_without}
use Rattle.eco_route.proofs.net_router.NetRouter.reroute.Goals as goal
use Rattle.eco_route.proofs.net_router.NetRouter.reroute.Goals.{After-route}

-- the loads are those without the set that is taken off
taken : (c : After-route) → router_loads c.route.new.self ≡ without_tree c.args.grid.now c.args.old_width c.args.old_tree.now (router_loads c.args.self.now)
taken c = c.route.ensures.loads ∙ c.forget.ensures.loads

pub notice-requires-clause-pieces : goal.notice-requires-clause-pieces
notice-requires-clause-pieces c = step_pieces c.args.grid.now c.args.net.now _ c.in-Ok.tree c.in-Ok.ensures.step

pub notice-requires-clause-room : goal.notice-requires-clause-room
notice-requires-clause-room c r =
    room_without c.args.grid.now c.args.old_width c.args.old_tree.now (router_loads c.args.self.now) (router_loads c.route.new.self)
    (taken (goal.at.notice-requires-clause-room c).After-route) c.requires.room r

pub notice-requires-in-Err-clause-room : goal.notice-requires-in-Err-clause-room
notice-requires-in-Err-clause-room c r =
    room_without c.args.grid.now c.args.old_width c.args.old_tree.now (router_loads c.args.self.now) (router_loads c.route.new.self)
    (taken (goal.at.notice-requires-in-Err-clause-room c).After-route) c.requires.room r

pub returns-in-Ok-clause-step : goal.returns-in-Ok-clause-step
returns-in-Ok-clause-step c = subst (λ seen. IsStep c.args.grid.now c.args.net.now seen eco_scale None c.in-Ok.tree) c.forget.ensures.loads c.in-Ok.ensures.step

pub returns-in-Ok-clause-gained : goal.returns-in-Ok-clause-gained
returns-in-Ok-clause-gained c r =
    c.notice.ensures.loads r
    ∙ ap (λ loads. slice_index loads r + tree_load c.args.grid.now c.args.net.now.width c.in-Ok.tree r) (taken (goal.at.returns-in-Ok-clause-gained c).After-route)

pub returns-in-Err-clause-as_before : goal.returns-in-Err-clause-as_before
returns-in-Err-clause-as_before c =
    put_again c.args.grid.now c.args.old_width c.args.old_tree.now (router_loads c.args.self.now) (router_loads c.route.new.self) (router_loads c.notice-in-Err.new.self)
    (taken (goal.at.returns-in-Err-clause-as_before c).After-route) c.requires.had c.notice-in-Err.ensures.loads
