use Rattle.std.proofs.Common.{get_or, subst, sym}
use Rattle.std.proofs.lemmas.Option.{slice_get-get_or}
use Rattle.edit_text.specs.declared.edit.Edit.{Edit}
use Rattle.grid_base.specs.Lists.{At}
use Rattle.eco_laws.proofs.EcoChains.{refused_after_steps}
use Rattle.eco_cli.proofs.StepsMade.{steps-next}
use Rattle.eco_cli.proofs.editing.make_edits.Goals as goal

pub loop-index-preserved : goal.loop-index-preserved
loop-index-preserved c =
    let edits = c.args.edits.now in
    let k = c.loop-index.index in
    let e = c.index-edits-index.result in
    let at : At edits k e = subst (λ (x : Edit). At edits k x) (sym c.index-edits-index.is) (slice_get-get_or edits k e c.loop-index-test.true) in
    steps-next edits k e c.args.eco.now c.loop-index.eco c.apply.new.self at c.loop-index.invariant
    (record { accepted = c.in-Ok.ensures.accepted; step = c.in-Ok.ensures.step })

pub returns-in-Err-Fault-clause-stopped : goal.returns-in-Err-Fault-clause-stopped
returns-in-Err-Fault-clause-stopped c =
    let edits = c.args.edits.now in
    let k = c.loop-index.index in
    let e = c.index-edits-index.result in
    let at : At edits k e = subst (λ (x : Edit). At edits k x) (sym c.index-edits-index.is) (slice_get-get_or edits k e c.loop-index-test.true) in
    rw c.in-Err-Fault.field-0-is (refused_after_steps edits c.args.eco.now c.loop-index.eco k e c.in-Err-Fault.fault at c.loop-index.invariant
    (rw c.in-Err-Fault.field-0-is at c.in-Err-Fault.ensures.refusal))
