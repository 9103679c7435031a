use Rattle.std.proofs.Common.{◌≡◌, ◌+◌, ◌-◌, ◌<◌, ◌≤◌, length, sym, ◌∙◌, ap, subst, arith}
use Rattle.std.specs.List.{remove}
use Rattle.std.proofs.lemmas.Result.{err_from_is_err_and}
use Rattle.edit_text.specs.declared.edit.Edit.TheVariants.{Change}
use Rattle.grid_base.specs.Lists.{At}
use Rattle.grid_graph.specs.declared.design.Design.{Design}
use Rattle.grid_graph.specs.Grounds.{IsGround}
use Rattle.grid_graph.specs.Limits.{max_pins}
use Rattle.eco_route.specs.EditRefusals.{terminals_of, IsEditAccepted, IsEditRefusal, IsNetRefusal}
use Rattle.eco_route.specs.EditedDesigns.{IsNetOfPins}
use Rattle.eco_route.specs.NetIndices.{ids_of}
use Rattle.eco_route.specs.RoutedDesigns.{RoutedDesign}
use Rattle.eco_route.proofs.Accepted.{change_accepted}
use Rattle.eco_route.proofs.EcoFacts.{has_id, id_here, id_within, net_read, terminals-removed}
use Rattle.eco_route.proofs.StepFacts.{change_refused, change_step}
use Rattle.eco_route.proofs.eco.Eco.change_net.Goals as goal
use Rattle.eco_route.proofs.eco.Eco.change_net.Goals.{After-list, After-list-3}

-- the design that it holds is the one that is seen
seen : (c : After-list) → c.self.inside.design ≡ c.args.self.now.design
seen c = ap (λ (x : RoutedDesign). x.design) c.self.view_is

-- the place of the net that changes
named : (c : After-list) → At (ids_of c.self.inside.design.nets) c.in_ok-place.place c.args.id
named c =
    id_here (record { design = c.self.inside.design; sets = c.self.inside.trees.items }) c.args.self.now c.in_ok-place.place c.args.id c.self.view_is c.in_ok-place.ensures.found

within : (c : After-list) → c.in_ok-place.place < length c.self.inside.design.nets
within c = id_within c.self.inside.design.nets c.in_ok-place.place c.args.id (named c)

-- the net that stands there
net_at : (c : After-list-3) → c.in_ok-place.place < length c.self.inside.design.nets → At c.self.inside.design.nets c.in_ok-place.place c.index-list-place.result
net_at c short = net_read c.self.inside.design.nets c.list.result.now c.in_ok-place.place c.index-list-place.result c.list.ensures.items short c.index-list-place.is

net_seen : (c : After-list-3) → c.self.inside.design ≡ c.args.self.now.design → c.in_ok-place.place < length c.self.inside.design.nets → At c.args.self.now.design.nets c.in_ok-place.place c.index-list-place.result
net_seen c same short = subst (λ (d : Design). At d.nets c.in_ok-place.place c.index-list-place.result) same (net_at c short)

-- the terminals of the others
others : (c : After-list-3) → c.in_ok-place.place < length c.self.inside.design.nets
    → terminals_of (remove c.self.inside.design.nets c.in_ok-place.place) + length c.list-3.result.now ≡ c.self.inside.terminals
others c short =
    omega (
      arith,
      ap length c.list-3.ensures.items,
      c.self.invariant.counted,
      terminals-removed c.self.inside.design.nets c.in_ok-place.place c.index-list-place.result (net_at c short),
    )

pub overflow_sub-wish : goal.overflow_sub-wish
overflow_sub-wish c =
    let here = goal.at.overflow_sub-wish c in
    omega (arith, others here.After-list-3 (within here.After-list))

pub returns-in_err-net-clause-refusal : goal.returns-in_err-net-clause-refusal
returns-in_err-net-clause-refusal c =
    let d = c.self.inside.design in
    let here = goal.at.returns-in_err-net-clause-refusal c in
    let p = c.in_ok-place.place in
    let n = c.index-list-place.result in
    let others_here = others here.After-list-3 (within here.After-list) in
    let before = net_at here.After-list-3 (within here.After-list) in
    let exit = err_from_is_err_and c.from_residual-in_err-net.result c.from_residual-in_err-net.ensures.1 in
    let refused : IsNetRefusal d.grid c.len.result (c.self.inside.terminals - length c.list-3.result.now) n.name c.args.id c.args.width c.args.pins.now c.in_err-net.field-0.0 =
    subst (λ name. IsNetRefusal d.grid c.len.result (c.self.inside.terminals - length c.list-3.result.now) name c.args.id c.args.width c.args.pins.now c.in_err-net.field-0.0)
    c.list-2.ensures c.in_err-net.ensures.refusal in
    rw (exit.1, exit.2)
    (subst (λ (x : Design). IsEditRefusal x (Change c.args.id c.args.width c.args.pins.now) c.in_err-net.field-0.0) (seen here.After-list)
    (change_refused d p n c.args.id c.args.width c.args.pins.now c.len.result (c.self.inside.terminals - length c.list-3.result.now) c.in_err-net.field-0.0 before
    (has_id d.nets p c.args.id n (named here.After-list) before) (c.len.ensures ∙ c.self.inside.trees.ok.0 ∙ c.self.invariant.sets.one_each) (omega (arith, others_here)) refused))

pub rewire-requires-clause-place : goal.rewire-requires-clause-place
rewire-requires-clause-place c =
    let here = (goal.at.rewire-requires-clause-place c).After-list in
    subst (λ (d : Design). c.in_ok-place.place < length d.nets) (seen here) (within here)

pub rewire-requires-clause-same : goal.rewire-requires-clause-same
rewire-requires-clause-same c n at = has_id c.args.self.now.design.nets c.in_ok-place.place c.args.id n c.in_ok-place.ensures.found at ∙ sym c.in_ok-net.ensures.net.identified

pub rewire-requires-clause-pins : goal.rewire-requires-clause-pins
rewire-requires-clause-pins c =
    let here = goal.at.rewire-requires-clause-pins c in
    subst (λ (d : Design). terminals_of (remove d.nets c.in_ok-place.place) + length c.in_ok-net.net.terminals ≤ max_pins) (seen here.After-list)
    (omega (arith, c.in_ok-net.ensures.pins, others here.After-list-3 (within here.After-list)))

pub rewire-requires-clause-ground : goal.rewire-requires-clause-ground
rewire-requires-clause-ground c =
    subst (λ (d : Design). IsGround d.grid c.in_ok-net.net.terminals c.in_ok-net.over) (seen (goal.at.rewire-requires-clause-ground c).After-list) c.in_ok-net.ensures.ground

pub returns-clause-step : goal.returns-clause-step
returns-clause-step c =
    let here = goal.at.returns-clause-step c in
    let before = net_seen here.After-list-3 (seen here.After-list) (within here.After-list) in
    let made : IsNetOfPins c.self.inside.design.grid c.args.id c.index-list-place.result.name c.args.width c.args.pins.now c.in_ok-net.net =
    subst (λ name. IsNetOfPins c.self.inside.design.grid c.args.id name c.args.width c.args.pins.now c.in_ok-net.net) c.list-2.ensures c.in_ok-net.ensures.net in
    change_step c.args.self.now c.rewire.new.self c.args.id c.args.width c.args.pins.now c.in_ok-place.place c.index-list-place.result c.in_ok-net.net before
    (has_id c.args.self.now.design.nets c.in_ok-place.place c.args.id c.index-list-place.result c.in_ok-place.ensures.found before)
    (subst (λ (d : Design). IsNetOfPins d.grid c.args.id c.index-list-place.result.name c.args.width c.args.pins.now c.in_ok-net.net) (seen here.After-list) made)
    c.in_ok-rewire.ensures.rewired

pub returns-clause-accepted : goal.returns-clause-accepted
returns-clause-accepted c =
    let d = c.self.inside.design in
    let here = goal.at.returns-clause-accepted c in
    let p = c.in_ok-place.place in
    let n = c.index-list-place.result in
    let others_here = others here.After-list-3 (within here.After-list) in
    let before = net_at here.After-list-3 (within here.After-list) in
    let made : IsNetOfPins d.grid c.args.id n.name c.args.width c.args.pins.now c.in_ok-net.net =
    subst (λ name. IsNetOfPins d.grid c.args.id name c.args.width c.args.pins.now c.in_ok-net.net) c.list-2.ensures c.in_ok-net.ensures.net in
    subst (λ (x : Design). IsEditAccepted x (Change c.args.id c.args.width c.args.pins.now)) (seen here.After-list)
    (change_accepted d p n c.args.id c.args.width c.args.pins.now c.len.result (c.self.inside.terminals - length c.list-3.result.now) c.in_ok-net.net c.in_ok-net.over before
    (has_id d.nets p c.args.id n (named here.After-list) before) (c.len.ensures ∙ c.self.inside.trees.ok.0 ∙ c.self.invariant.sets.one_each) (omega (arith, others_here))
    c.in_ok-net.ensures.accepted made c.in_ok-net.ensures.ground)
