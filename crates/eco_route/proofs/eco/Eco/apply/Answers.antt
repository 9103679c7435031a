use Rattle.std.proofs.Common.{◌≡◌, sym, ◌∙◌, ap, ap₂, subst}
use Rattle.std.specs.Prelude.{OnOk}
use Rattle.edit_text.specs.declared.edit.Edit.{Edit}
use Rattle.edit_text.specs.declared.edit.Edit.TheVariants.{Add, Change}
use Rattle.eco_route.specs.EditRefusals.{IsEditAccepted}
use Rattle.eco_route.proofs.eco.Eco.apply.Goals as goal

pub returns-in-Add-clause-accepted : goal.returns-in-Add-clause-accepted
returns-in-Add-clause-accepted c =
    let asked : Add c.list.result.now c.in-Add.id c.in-Add.width c.list-in-Add.result.now ≡ c.args.edit.now =
    ap₂ (λ name pins. Add name c.in-Add.id c.in-Add.width pins) c.list.ensures c.list-in-Add.ensures ∙ sym c.in-Add.is in
    subst (λ (edit : Edit). OnOk c.add_net.result (IsEditAccepted c.args.self.now.design edit)) asked c.add_net.ensures.accepted

pub returns-in-Change-clause-accepted : goal.returns-in-Change-clause-accepted
returns-in-Change-clause-accepted c =
    let asked : Change c.in-Change.id c.in-Change.width c.list-in-Change.result.now ≡ c.args.edit.now =
    ap (λ pins. Change c.in-Change.id c.in-Change.width pins) c.list-in-Change.ensures ∙ sym c.in-Change.is in
    subst (λ (edit : Edit). OnOk c.change_net.result (IsEditAccepted c.args.self.now.design edit)) asked c.change_net.ensures.accepted
