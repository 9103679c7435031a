use Rattle.std.proofs.Common.{inl, inr}
use Rattle.eco_cli.specs.EcoRun.{eco_task_of}
use Rattle.eco_cli.proofs.EcoRuns.{editable, run-edited, run-objected, run-unedited, run-unread, run-wanting}
use Rattle.eco_cli.proofs.eco_command.eco.Goals as goal

pub edit-requires-clause-editable : goal.edit-requires-clause-editable
edit-requires-clause-editable g c =
    let told = g.D.Desk.told in
    let r = c.in-Ok-Edits.routed in
    let input = rw c.in-Ok-Edits.field-0-is at c.in-Ok-Edits.ensures.input in
    editable (eco_task_of c.args.request.now) (told c.args.desk.now) r.design r.trees.items input.0

pub edit-requires-clause-ranges : goal.edit-requires-clause-ranges
edit-requires-clause-ranges g c =
    let input = rw c.in-Ok-Edits.field-0-is at c.in-Ok-Edits.ensures.input in
    rw c.as_slice.ensures.value input.2

pub returns-in-Ok-Objected : goal.returns-in-Ok-Objected
returns-in-Ok-Objected g c =
    let told = g.D.Desk.told in
    let q = eco_task_of c.args.request.now in
    inr (inl (run-objected q (told c.args.desk.now) (told c.read_eco.new.desk) (told c.say.new.desk) c.say.result c.in-Ok-Objected.reason
    (rw c.in-Ok-Objected.field-0-is at c.in-Ok-Objected.ensures.input) (rw c.in-Ok-Objected.field-0-is at c.in-Ok-Objected.ensures.reads) c.say.ensures))

pub returns-in-Ok-Edited : goal.returns-in-Ok-Edited
returns-in-Ok-Edited g c =
    let told = g.D.Desk.told in
    let q = eco_task_of c.args.request.now in
    let r = c.in-Ok-Edits.routed in
    let input = rw c.in-Ok-Edits.field-0-is at c.in-Ok-Edits.ensures.input in
    let reads = rw c.in-Ok-Edits.field-0-is at c.in-Ok-Edits.ensures.reads in
    inl (run-edited q (told c.args.desk.now) (told c.read_eco.new.desk) (told c.finish.new.desk) c.finish.result r.design r.trees.items c.in-Ok-Edits.edits.items c.in-Ok-Edited.edited
    input.0 input.1 (rw (c.as_slice.ensures.value, c.in-Ok-Edited.field-0-is) at c.in-Ok-Edited.ensures) reads c.finish.ensures)

pub returns-in-Ok-Refused : goal.returns-in-Ok-Refused
returns-in-Ok-Refused g c =
    let told = g.D.Desk.told in
    let q = eco_task_of c.args.request.now in
    let r = c.in-Ok-Edits.routed in
    let input = rw c.in-Ok-Edits.field-0-is at c.in-Ok-Edits.ensures.input in
    let reads = rw c.in-Ok-Edits.field-0-is at c.in-Ok-Edits.ensures.reads in
    let said = c.refuse_edit.ensures in
    inr (inr (run-unedited q (told c.args.desk.now) (told c.read_eco.new.desk) (told c.refuse_edit.new.desk) c.refuse_edit.result r.design r.trees.items c.in-Ok-Edits.edits.items
    c.in-Ok-Refused.refused input.0 input.1 (rw (c.as_slice.ensures.value, c.in-Ok-Refused.field-0-is) at c.in-Ok-Refused.ensures) reads said.status said.says))

pub returns-in-Ok-Edits : goal.returns-in-Ok-Edits
returns-in-Ok-Edits g c =
    let told = g.D.Desk.told in
    let q = eco_task_of c.args.request.now in
    let r = c.in-Ok-Edits.routed in
    let input = rw c.in-Ok-Edits.field-0-is at c.in-Ok-Edits.ensures.input in
    let reads = rw c.in-Ok-Edits.field-0-is at c.in-Ok-Edits.ensures.reads in
    let said = c.refuse.ensures in
    inl (run-wanting q (told c.args.desk.now) (told c.read_eco.new.desk) (told c.refuse.new.desk) c.refuse.result r.design r.trees.items input.0 reads said.status said.says)

pub returns : goal.returns
returns g c =
    let told = g.D.Desk.told in
    let q = eco_task_of c.args.request.now in
    let reads = c.in-Err.ensures.reads in
    let said = c.refuse-in-Err.ensures in
    inl (run-unread q (told c.args.desk.now) (told c.read_eco.new.desk) (told c.refuse-in-Err.new.desk) c.refuse-in-Err.result c.in-Err.refusal reads.0 reads.1 said.status said.says)
