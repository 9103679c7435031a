use Rattle.std.proofs.Common.{true}
use Rattle.command_runs.specs.declared.refusal.Refusal.TheVariants.{NoMemory}
use Rattle.command_runs.proofs.LeftOutcomes.{leaves-text}
use Rattle.command_runs.proofs.ReadFiles.{sources-memory}
use Rattle.judge_cli.specs.AnswerLines.{reason_text}
use Rattle.unavoidable_cli.specs.declared.outcome.Outcome.TheVariants.{Found, Objected}
use Rattle.unavoidable_cli.specs.FoundHeadline.{IsOutcomeOf}
use Rattle.unavoidable_cli.specs.UnavoidableRun.{unavoidable_sources}
use Rattle.unavoidable_cli.specs.Words.{unavoidable_task_of}
use Rattle.unavoidable_cli.proofs.FindingParts.{finding_edges}
use Rattle.unavoidable_cli.proofs.WholeRuns.{run-shown, run-not_shown}
use Rattle.unavoidable_cli.proofs.show.show.Goals as goal

pub finish-requires : goal.finish-requires
finish-requires g c =
    let r = c.in-Ok.read in
    let f = c.in-Ok-Found.finding in
    let is : IsOutcomeOf r.routed.grounded.design r.routed.grounded.grounds.items r.routed.blocks r.cert (Found f) =
    rw c.in-Ok-Found.field-0-is at c.in-Ok-Found.ensures in
    finding_edges r.routed.grounded.grounds.items r.routed.blocks is.1.0 f is.1.2

pub returns-in-Ok-Found : goal.returns-in-Ok-Found
returns-in-Ok-Found g c =
    let told = g.D.Desk.told in
    let r = c.in-Ok.read in
    let read = c.in-Ok.ensures in
    run-shown (unavoidable_task_of c.args.names.now) (told c.args.desk.now) (told c.read_given.new.desk) (told c.finish.new.desk)
    c.finish.result (Found c.in-Ok-Found.finding)
    (record {
      design = r.routed.grounded.design;
      grounds = r.routed.grounded.grounds.items;
      blocks = r.routed.blocks;
      given = r.cert;
      are_read = read.are_read;
      cert_read = read.cert;
      comes = rw c.in-Ok-Found.field-0-is at c.in-Ok-Found.ensures;
    })
    read.reads c.finish.ensures

pub returns-in-Ok-Objected : goal.returns-in-Ok-Objected
returns-in-Ok-Objected g c =
    let told = g.D.Desk.told in
    let b = told c.read_given.new.desk in
    let r = c.in-Ok.read in
    let read = c.in-Ok.ensures in
    let reason = c.in-Ok-Objected.reason in
    run-shown (unavoidable_task_of c.args.names.now) (told c.args.desk.now) b (told c.say.new.desk) c.say.result (Objected reason)
    (record {
      design = r.routed.grounded.design;
      grounds = r.routed.grounded.grounds.items;
      blocks = r.routed.blocks;
      given = r.cert;
      are_read = read.are_read;
      cert_read = read.cert;
      comes = rw c.in-Ok-Objected.field-0-is at c.in-Ok-Objected.ensures;
    })
    read.reads (leaves-text (reason_text reason) true b (told c.say.new.desk) c.say.result c.say.ensures)

pub returns-in-Err-outcome_of : goal.returns-in-Err-outcome_of
returns-in-Err-outcome_of g c =
    let told = g.D.Desk.told in
    let q = unavoidable_task_of c.args.names.now in
    run-not_shown q (told c.args.desk.now) (told c.read_given.new.desk)
    (told c.refuse.new.desk) c.refuse.result NoMemory (sources-memory {sources = unavoidable_sources q} c.in-Ok.ensures.reads) c.refuse.ensures.status
    c.refuse.ensures.says

pub returns-in-Err : goal.returns-in-Err
returns-in-Err g c =
    let told = g.D.Desk.told in
    run-not_shown (unavoidable_task_of c.args.names.now) (told c.args.desk.now) (told c.read_given.new.desk)
    (told c.refuse-in-Err.new.desk) c.refuse-in-Err.result c.in-Err.refusal c.in-Err.ensures.reads c.refuse-in-Err.ensures.status
    c.refuse-in-Err.ensures.says
