use Rattle.std.proofs.Common.{◌≡◌, ◌+◌, length, sym, ◌∙◌, ap, subst}
use Rattle.std.specs.Prelude.{slice_index}
use Rattle.std.proofs.lemmas.Result.{err_from_is_err_and}
use Rattle.edit_text.specs.declared.edit.Edit.TheVariants.{Add}
use Rattle.grid_graph.specs.declared.design.Design.{Design}
use Rattle.price_workers.proofs.TurnFacts.{step_pieces}
use Rattle.eco_route.specs.EcoSteps.{IsAddStep}
use Rattle.eco_route.specs.EditRefusals.{HasNoNet, IsEditAccepted, IsEditRefusal}
use Rattle.eco_route.specs.RoutedDesigns.{RoutedDesign}
use Rattle.eco_route.specs.Routers.{router_loads}
use Rattle.eco_route.proofs.Accepted.{add_accepted}
use Rattle.eco_route.proofs.EcoFacts.{loads_are, IsEco-rerouted}
use Rattle.eco_route.proofs.StepFacts.{add_refused, add_step, is_taken, when_not_ok}
use Rattle.eco_route.proofs.eco.Eco.add_net.Goals as goal

pub returns-then-is_ok-clause-refusal : goal.returns-then-is_ok-clause-refusal
returns-then-is_ok-clause-refusal c =
    is_taken c.args.self.now.design c.args.name.now c.args.id c.args.width c.args.pins.now c.place_of.result (sym c.is_ok.ensures.value ∙ c.if-is_ok.true) c.place_of.ensures.found

pub returns-in_err-net-clause-refusal : goal.returns-in_err-net-clause-refusal
returns-in_err-net-clause-refusal c =
    let d = c.self.inside.design in
    let seen : d ≡ c.args.self.now.design = ap (λ (x : RoutedDesign). x.design) c.self.view_is in
    let exit = err_from_is_err_and c.from_residual.result c.from_residual.ensures.1 in
    let free : HasNoNet c.args.self.now.design.nets c.args.id = when_not_ok c.place_of.result (sym c.is_ok.ensures.value ∙ c.if-is_ok.false) c.place_of.ensures.free in
    let here : HasNoNet d.nets c.args.id = subst (λ (x : Design). HasNoNet x.nets c.args.id) (sym seen) free in
    let count : c.len.result + 1 ≡ length d.nets + 1 = ap (λ k. k + 1) (c.len.ensures ∙ c.self.inside.trees.ok.0 ∙ c.self.invariant.sets.one_each) in
    rw (exit.1, exit.2)
    (subst (λ (x : Design). IsEditRefusal x (Add c.args.name.now c.args.id c.args.width c.args.pins.now) c.in_err-net.field-0.0) seen
    (add_refused d c.args.name.now c.args.id c.args.width c.args.pins.now (c.len.result + 1) c.self.inside.terminals c.in_err-net.field-0.0 count c.self.invariant.counted here c.in_err-net.ensures.refusal))

pub invariant_of-self : goal.invariant_of-self
invariant_of-self c =
    let s = c.self.inside in
    IsEco-rerouted s.design.grid s.design.nets s.trees.items s.index s.terminals s.router c.route.new.self c.self.invariant c.route.ensures.router
    (λ r. ap (λ loads. slice_index loads r) c.route.ensures.loads)

pub invariant_of-self-2 : goal.invariant_of-self-2
invariant_of-self-2 c =
    let s = c.self.inside in
    IsEco-rerouted s.design.grid s.design.nets s.trees.items s.index s.terminals s.router c.route.new.self c.self.invariant c.route.ensures.router
    (λ r. ap (λ loads. slice_index loads r) c.route.ensures.loads)

pub append-requires-clause-free : goal.append-requires-clause-free
append-requires-clause-free c place n at same =
    let seen : c.self.inside.design ≡ c.args.self.now.design = ap (λ (x : RoutedDesign). x.design) c.self.view_is in
    let free : HasNoNet c.args.self.now.design.nets c.args.id = when_not_ok c.place_of.result (sym c.is_ok.ensures.value ∙ c.if-is_ok.false) c.place_of.ensures.free in
    let here : HasNoNet c.self.inside.design.nets c.args.id = subst (λ (x : Design). HasNoNet x.nets c.args.id) (sym seen) free in
    here place n at (same ∙ c.in_ok-net.ensures.net.identified)

pub append-requires-clause-pieces : goal.append-requires-clause-pieces
append-requires-clause-pieces c = step_pieces c.self.inside.design.grid c.in_ok-net.net _ c.in_ok-tree.tree c.in_ok-tree.ensures.step

pub returns-clause-step : goal.returns-clause-step
returns-clause-step c =
    let s = c.self.inside in
    let old : RoutedDesign = record { design = s.design; sets = s.trees.items } in
    let loaded = loads_are s.design.grid s.design.nets s.trees.items (router_loads s.router) c.self.invariant.routed.priced.kept.loaded.long c.self.invariant.loaded in
    let made = c.in_ok-append.ensures in
    subst (λ (x : RoutedDesign). IsAddStep c.args.name.now c.args.id c.args.width c.args.pins.now x.design x.sets c.append.new.self.design c.append.new.self.sets) c.self.view_is
    (add_step old c.append.new.self c.args.name.now c.args.id c.args.width c.args.pins.now c.in_ok-net.net c.in_ok-tree.tree (router_loads s.router) c.in_ok-net.ensures.net loaded
    c.in_ok-tree.ensures.step made.grid made.nets made.sets)

pub returns-clause-accepted : goal.returns-clause-accepted
returns-clause-accepted c =
    let d = c.self.inside.design in
    let seen : d ≡ c.args.self.now.design = ap (λ (x : RoutedDesign). x.design) c.self.view_is in
    let free : HasNoNet c.args.self.now.design.nets c.args.id = when_not_ok c.place_of.result (sym c.is_ok.ensures.value ∙ c.if-is_ok.false) c.place_of.ensures.free in
    let here : HasNoNet d.nets c.args.id = subst (λ (x : Design). HasNoNet x.nets c.args.id) (sym seen) free in
    let count : c.len.result + 1 ≡ length d.nets + 1 = ap (λ k. k + 1) (c.len.ensures ∙ c.self.inside.trees.ok.0 ∙ c.self.invariant.sets.one_each) in
    subst (λ (x : Design). IsEditAccepted x (Add c.args.name.now c.args.id c.args.width c.args.pins.now)) seen
    (add_accepted d c.args.name.now c.args.id c.args.width c.args.pins.now (c.len.result + 1) c.self.inside.terminals c.in_ok-net.net c.in_ok-net.over count c.self.invariant.counted here
    c.in_ok-net.ensures.accepted c.in_ok-net.ensures.net c.in_ok-net.ensures.ground)
