use Rattle.std.proofs.Common.{◌≡◌, ◌<◌, length, sym, ◌∙◌, subst}
use Rattle.std.specs.Prelude.{IfOk, IfErr}
use Rattle.std.proofs.lemmas.Option.{same_Some}
use Rattle.grid_base.specs.Lists.{At}
use Rattle.grid_graph.specs.declared.net_spec.NetSpec.{NetSpec}
use Rattle.grid_graph.specs.Grounds.{IsGround, IsCutOff}
use Rattle.eco_route.specs.RoutedDesigns.{RoutedDesign}
use Rattle.eco_route.proofs.EcoFacts.{net_read}
use Rattle.eco_route.proofs.eco.Eco.ground_of.Goals as goal
use Rattle.eco_route.proofs.eco.Eco.ground_of.Goals.{After-index-list-place}

-- the net that is read
net_at : (c : After-index-list-place) → At c.self.inside.design.nets c.args.place c.index-list-place.result
net_at c =
    let short : c.args.place < length c.self.inside.design.nets = subst (λ (x : RoutedDesign). c.args.place < length x.design.nets) (sym c.self.view_is) c.requires in
    net_read c.self.inside.design.nets c.list.result.now c.args.place c.index-list-place.result c.list.ensures.items short c.index-list-place.is

-- is the one at the place
net_is : (c : After-index-list-place) (n : NetSpec) → At c.args.self.now.design.nets c.args.place n → c.index-list-place.result ≡ n
net_is c n at = same_Some c.index-list-place.result n (sym (net_at c) ∙ subst (λ (x : RoutedDesign). At x.design.nets c.args.place n) (sym c.self.view_is) at)

pub ground_of-requires-clause-net : goal.ground_of-requires-clause-net
ground_of-requires-clause-net c =
    c.self.inside.design.limits.net c.args.place c.index-list-place.result (net_at (goal.at.ground_of-requires-clause-net c).After-index-list-place)

pub returns-clause-found : goal.returns-clause-found
returns-clause-found c n at =
    let d = c.self.inside.design in
    subst (λ (x : RoutedDesign). IfOk c.ground_of.result (IsGround x.design.grid n.terminals)) c.self.view_is
    (subst (λ (m : NetSpec). IfOk c.ground_of.result (IsGround d.grid m.terminals)) (net_is (goal.at.returns-clause-found c).After-index-list-place n at) c.ground_of.ensures.found)

pub returns-clause-cause : goal.returns-clause-cause
returns-clause-cause c n at =
    let d = c.self.inside.design in
    subst (λ (x : RoutedDesign). IfErr c.ground_of.result (λ e. IsCutOff x.design.grid n e.id e.terminal)) c.self.view_is
    (subst (λ (m : NetSpec). IfErr c.ground_of.result (λ e. IsCutOff d.grid m e.id e.terminal)) (net_is (goal.at.returns-clause-cause c).After-index-list-place n at) c.ground_of.ensures.cause)
