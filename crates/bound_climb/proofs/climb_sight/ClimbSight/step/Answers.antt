use Rattle.std.proofs.Common.{◌≡◌, get_or, sym, ◌∙◌, subst, arith}
use Rattle.std.proofs.lemmas.Option.{same_Some}
use Rattle.std.proofs.lemmas.Slice.Zip.{AllZip-long}
use Rattle.rayon.proofs.ListFacts.{IfOk-then}
use Rattle.grid_base.specs.Lists.{At}
use Rattle.grid_graph.specs.declared.grid.Grid.{Grid}
use Rattle.grid_graph.specs.declared.ground.Ground.TheVariants.{Open}
use Rattle.grid_graph.specs.declared.net_spec.NetSpec.{NetSpec}
use Rattle.grid_graph.specs.Grids.{IsNetWidth}
use Rattle.grid_graph.specs.Grounds.{IsGround}
use Rattle.edge_prices.specs.KeptLists.{scale_of, budget_of, loads_of}
use Rattle.sharing_runs.specs.NetSteps.{IsStep}
use Rattle.dual_bound.proofs.NetsOf.{net_ground, net_stands, net_width}
use Rattle.bound_climb.proofs.climb_sight.ClimbSight.step.Goals as goal
use Rattle.bound_climb.proofs.climb_sight.ClimbSight.step.Goals.{After-index-list-net}

pub bounds-self-net : goal.bounds-self-net
bounds-self-net c =
    let s = c.args.self.now in
    omega (arith, c.requires.net, AllZip-long (λ (n : NetSpec) found. IsGround s.design.now.grid n.terminals found) s.design.now.nets s.grounds.now c.requires.sight.grounds)

net_at : (c : After-index-list-net) → At c.args.self.now.design.now.nets c.args.net c.index-list-net.result
net_at c = net_stands c.args.self.now.design.now.nets c.list.result.now c.args.net c.index-list-net.result c.list.ensures.items c.requires.net c.index-list-net.is

pub step_at-requires-clause-width : goal.step_at-requires-clause-width
step_at-requires-clause-width c =
    let s = c.args.self.now in
    let here = (goal.at.step_at-requires-clause-width c).After-index-list-net in
    subst (λ (g : Grid). IsNetWidth g c.index-list-net.result.width) (sym c.requires.sight.grid) (net_width s.design.now c.args.net c.index-list-net.result (net_at here))

pub step_at-requires-clause-ground : goal.step_at-requires-clause-ground
step_at-requires-clause-ground c =
    let s = c.args.self.now in
    let here = (goal.at.step_at-requires-clause-ground c).After-index-list-net in
    subst (λ (g : Grid). IsGround g c.index-list-net.result.terminals (get_or s.grounds.now c.args.net Open)) (sym c.requires.sight.grid)
    (net_ground s.design.now.grid s.design.now.nets s.grounds.now c.args.net c.index-list-net.result Open c.requires.sight.grounds c.requires.net (net_at here))

pub returns-clause-step : goal.returns-clause-step
returns-clause-step c =
    let s = c.args.self.now in
    let kept = s.kept in
    let here = (goal.at.returns-clause-step c).After-index-list-net in
    IfOk-then c.step_at.result _ _ c.step_at.ensures.step
    (λ tree step n at.
    let same : c.index-list-net.result ≡ n = same_Some c.index-list-net.result n (sym (net_at here) ∙ at) in
    subst (λ (m : NetSpec). IsStep s.design.now.grid m (loads_of kept) (scale_of kept) (budget_of kept) tree) same
    (subst (λ (g : Grid). IsStep g c.index-list-net.result (loads_of kept) (scale_of kept) (budget_of kept) tree) c.requires.sight.grid step))
