use Rattle.std.proofs.Common.{[], refl}
use Rattle.command_runs.specs.declared.refusal.Refusal.TheVariants.{NoMemory}
use Rattle.command_runs.specs.AnsweredRun.{AnswersRightly}
use Rattle.command_runs.proofs.EndedRuns.{run-left, run-refused}
use Rattle.command_runs.proofs.ReadFiles.{sources-memory}
use Rattle.judge_cli.specs.AnswerLines.{answer_outcome}
use Rattle.judge_cli.specs.JudgeRun.{IsJudgeAnswer, judge_sources, judge_task_of}
use Rattle.judge_cli.proofs.JudgedRuns.{leaves-answer}
use Rattle.judge_cli.proofs.judging.judge.Goals as goal

pub returns-in-Ok-answer_on_cert : goal.returns-in-Ok-answer_on_cert
returns-in-Ok-answer_on_cert g c =
    let told = g.D.Desk.told in
    let q = judge_task_of c.args.request.now in
    let a = told c.args.desk.now in
    let b = told c.read_certified.new.desk in
    let r = c.in-Ok.read in
    let read = c.in-Ok.ensures in
    let answer = c.in-Ok-answer_on_cert.answer in
    run-left (judge_sources q) [] (AnswersRightly answer_outcome (IsJudgeAnswer q a)) a b (told c.say.new.desk) c.say.result
    (answer_outcome answer) (refl, (refl, (refl, tt))) tt (
      answer,
      record {
        design = r.routed.grounded.design;
        grounds = r.routed.grounded.grounds.items;
        blocks = r.routed.blocks;
        cert = r.cert;
        are_read = read.are_read;
        cert_read = read.cert;
        is_true = c.in-Ok-answer_on_cert.ensures;
      },
      refl,
    )
    read.reads (leaves-answer answer b (told c.say.new.desk) c.say.result (rw c.is_objection.ensures at c.say.ensures))

pub returns-in-Ok : goal.returns-in-Ok
returns-in-Ok g c =
    let told = g.D.Desk.told in
    let q = judge_task_of c.args.request.now in
    let a = told c.args.desk.now in
    run-refused (judge_sources q) [] (AnswersRightly answer_outcome (IsJudgeAnswer q a)) a (told c.read_certified.new.desk)
    (told c.refuse.new.desk) c.refuse.result NoMemory (refl, (refl, (refl, tt))) tt (sources-memory {sources = judge_sources q} c.in-Ok.ensures.reads)
    c.refuse.ensures.status c.refuse.ensures.says

pub returns : goal.returns
returns g c =
    let told = g.D.Desk.told in
    let q = judge_task_of c.args.request.now in
    let a = told c.args.desk.now in
    run-refused (judge_sources q) [] (AnswersRightly answer_outcome (IsJudgeAnswer q a)) a (told c.read_certified.new.desk)
    (told c.refuse-in-Err.new.desk) c.refuse-in-Err.result c.in-Err.refusal (refl, (refl, (refl, tt))) tt c.in-Err.ensures.reads
    c.refuse-in-Err.ensures.status c.refuse-in-Err.ensures.says
