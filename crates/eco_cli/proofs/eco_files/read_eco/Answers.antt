use Rattle.std.proofs.Common.{refl, subst}
use Rattle.command_runs.specs.declared.refusal.Refusal.{Refusal}
use Rattle.command_runs.proofs.ReadFiles.{error_of, sources-early, sources-failed, sources-passed, sources-then}
use Rattle.eco_cli.specs.EcoInputs.{edits_source, routed_sources}
use Rattle.eco_cli.specs.EcoRun.{eco_task_of}
use Rattle.eco_cli.proofs.EcoFiles.{accepted-never, edits-apart, input-failed, edits-failed, objected-early}
use Rattle.eco_cli.proofs.eco_files.read_eco.Goals as goal

pub returns-in_err-routed-clause-reads : goal.returns-in_err-routed-clause-reads
returns-in_err-routed-clause-reads g c =
    let told = g.D.Desk.told in
    input-failed (eco_task_of c.args.request.now) (told c.args.desk.now) (told c.read_judged.new.desk) c.read_judged.result c.from_residual.result c.in_err-routed.field-0.0
    c.in_err-routed.was c.from_residual.ensures.1 c.read_judged.ensures.reads

pub returns-in_err-edits-in-Routed-clause-reads : goal.returns-in_err-edits-in-Routed-clause-reads
returns-in_err-edits-in-Routed-clause-reads g c =
    let told = g.D.Desk.told in
    let x = c.from_residual-in_err-edits-in-Routed in
    edits-failed (eco_task_of c.args.request.now) (told c.args.desk.now) (told c.read_judged.new.desk) (told c.read_edit_list.new.desk) c.in-Routed.routed c.read_edit_list.result x.result
    c.in_err-edits-in-Routed.field-0.0 c.in_err-edits-in-Routed.was x.ensures.1 (rw c.in-Routed.is at c.in_ok-routed.ensures.judged) c.in_ok-routed.ensures.reads c.read_edit_list.ensures.reads

pub returns-in_ok-edits-in-Routed-clause-reads : goal.returns-in_ok-edits-in-Routed-clause-reads
returns-in_ok-edits-in-Routed-clause-reads g c =
    let q = eco_task_of c.args.request.now in
    sources-then (routed_sources q) (edits_source q.edits) _ (edits-apart q) c.in_ok-routed.ensures.reads (sources-passed tt c.in_ok-edits-in-Routed.ensures.reads)
