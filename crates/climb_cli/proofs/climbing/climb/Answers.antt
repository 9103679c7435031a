use Rattle.std.proofs.Common.{true, refl}
use Rattle.command_runs.specs.AnsweredRun.{AnswersRightly}
use Rattle.command_runs.specs.declared.refusal.Refusal.TheVariants.{NoMemory}
use Rattle.command_runs.proofs.EndedRuns.{run-left, run-refused}
use Rattle.command_runs.proofs.LeftOutcomes.{leaves-text}
use Rattle.command_runs.proofs.ReadFiles.{sources-memory}
use Rattle.judge_cli.specs.declared.answer.Answer.TheVariants as answers
use Rattle.judge_cli.specs.AnswerLines.{answer_text}
use Rattle.climb_cli.specs.declared.climb_answer.ClimbAnswer.{ClimbAnswer}
use Rattle.climb_cli.specs.declared.climb_answer.ClimbAnswer.TheVariants.{Climbed, No}
use Rattle.climb_cli.specs.ClimbLines.{climb_outcome}
use Rattle.climb_cli.specs.ClimbRun.{IsClimbAnswer, climb_files, climb_sources, climb_task_of}
use Rattle.climb_cli.proofs.ClimbRuns.{climb-inputs, climb-outputs}
use Rattle.climb_cli.proofs.climbing.climb.Goals as goal

pub returns-in-Ok-Climbed : goal.returns-in-Ok-Climbed
returns-in-Ok-Climbed g c =
    let told = g.D.Desk.told in
    let q = climb_task_of c.args.request.now in
    let a = told c.args.desk.now in
    let r = c.in-Ok.read in
    let answer : ClimbAnswer = Climbed c.in-Ok-Climbed.new in
    run-left (climb_sources q) (climb_files q) (AnswersRightly climb_outcome (IsClimbAnswer q a)) a (told c.read_certified.new.desk) (told c.finish.new.desk) c.finish.result
    (climb_outcome answer) (climb-inputs q) (climb-outputs q) (
      answer,
      record {
        design = r.routed.grounded.design;
        grounds = r.routed.grounded.grounds.items;
        blocks = r.routed.blocks;
        cert = r.cert;
        are_read = c.in-Ok.ensures.are_read;
        cert_read = c.in-Ok.ensures.cert;
        is_true = rw c.in-Ok-Climbed.field-0-is at c.in-Ok-Climbed.ensures;
      },
      refl,
    )
    c.in-Ok.ensures.reads c.finish.ensures

pub returns-in-Ok-No : goal.returns-in-Ok-No
returns-in-Ok-No g c =
    let told = g.D.Desk.told in
    let q = climb_task_of c.args.request.now in
    let a = told c.args.desk.now in
    let b = told c.read_certified.new.desk in
    let r = c.in-Ok.read in
    let reason = c.in-Ok-No.reason in
    let answer : ClimbAnswer = No reason in
    run-left (climb_sources q) (climb_files q) (AnswersRightly climb_outcome (IsClimbAnswer q a)) a b (told c.say.new.desk) c.say.result
    (climb_outcome answer) (climb-inputs q) (climb-outputs q) (
      answer,
      record {
        design = r.routed.grounded.design;
        grounds = r.routed.grounded.grounds.items;
        blocks = r.routed.blocks;
        cert = r.cert;
        are_read = c.in-Ok.ensures.are_read;
        cert_read = c.in-Ok.ensures.cert;
        is_true = rw c.in-Ok-No.field-0-is at c.in-Ok-No.ensures;
      },
      refl,
    )
    c.in-Ok.ensures.reads (leaves-text (answer_text (answers.No reason)) true b (told c.say.new.desk) c.say.result c.say.ensures)

pub returns-in-Err-answer_on : goal.returns-in-Err-answer_on
returns-in-Err-answer_on g c =
    let told = g.D.Desk.told in
    let q = climb_task_of c.args.request.now in
    let a = told c.args.desk.now in
    let said = c.refuse.ensures in
    run-refused (climb_sources q) (climb_files q) (AnswersRightly climb_outcome (IsClimbAnswer q a)) a (told c.read_certified.new.desk)
    (told c.refuse.new.desk) c.refuse.result NoMemory (climb-inputs q) (climb-outputs q) (sources-memory {sources = climb_sources q} c.in-Ok.ensures.reads) said.status said.says

pub returns-in-Err : goal.returns-in-Err
returns-in-Err g c =
    let told = g.D.Desk.told in
    let q = climb_task_of c.args.request.now in
    let a = told c.args.desk.now in
    let said = c.refuse-in-Err.ensures in
    run-refused (climb_sources q) (climb_files q) (AnswersRightly climb_outcome (IsClimbAnswer q a)) a (told c.read_certified.new.desk)
    (told c.refuse-in-Err.new.desk) c.refuse-in-Err.result c.in-Err.refusal (climb-inputs q) (climb-outputs q) c.in-Err.ensures.reads said.status said.says
