use Rattle.std.proofs.Common.{subst}
use Rattle.std.specs.Prelude.{OnErr}
use Rattle.eco_route.specs.EditRefusals.{HasNoNet}
use Rattle.eco_route.specs.NetIndices.{ids_of}
use Rattle.eco_route.specs.RoutedDesigns.{RoutedDesign}
use Rattle.eco_route.proofs.EcoFacts.{no_net, where_none}
use Rattle.eco_route.proofs.eco.Eco.place_of.Goals as goal

pub returns-clause-free : goal.returns-clause-free
returns-clause-free c =
    let nets = c.self.inside.design.nets in
    subst (λ (x : RoutedDesign). OnErr c.ok_or.result (HasNoNet x.design.nets c.args.id)) c.self.view_is
    (where_none c.place_of.result c.ok_or.result c.ok_or.ensures.variant (c.place_of.ensures.none (ids_of nets) c.self.invariant.indexed) (no_net nets c.args.id))
