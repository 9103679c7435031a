use Rattle.std.proofs.Common.{[], refl}
use Rattle.command_runs.specs.declared.refusal.Refusal.TheVariants.{NoMemory}
use Rattle.command_runs.specs.AnsweredRun.{AnswersRightly}
use Rattle.command_runs.proofs.EndedRuns.{run-left, run-refused}
use Rattle.command_runs.proofs.ReadFiles.{sources-memory}
use Rattle.judge_cli.specs.AnswerLines.{answer_outcome}
use Rattle.judge_cli.specs.MeasureRun.{IsMeasureAnswer, measure_sources, measure_task_of}
use Rattle.judge_cli.proofs.JudgedRuns.{leaves-answer}
use Rattle.judge_cli.proofs.measuring.measure.Goals as goal

pub returns-in-Ok-answer_on_routes : goal.returns-in-Ok-answer_on_routes
returns-in-Ok-answer_on_routes g c =
    let told = g.D.Desk.told in
    let q = measure_task_of c.args.request.now in
    let a = told c.args.desk.now in
    let b = told c.read_routed.new.desk in
    let r = c.in-Ok.read in
    let read = c.in-Ok.ensures in
    let answer = c.in-Ok-answer_on_routes.answer in
    run-left (measure_sources q) [] (AnswersRightly answer_outcome (IsMeasureAnswer q a)) a b (told c.say.new.desk) c.say.result
    (answer_outcome answer) (refl, (refl, tt)) tt (
      answer,
      record {
        design = r.grounded.design;
        grounds = r.grounded.grounds.items;
        blocks = r.blocks;
        are_read = read.are_read;
        is_true = c.in-Ok-answer_on_routes.ensures;
      },
      refl,
    )
    read.reads (leaves-answer answer b (told c.say.new.desk) c.say.result (rw c.is_objection.ensures at c.say.ensures))

pub returns-in-Ok : goal.returns-in-Ok
returns-in-Ok g c =
    let told = g.D.Desk.told in
    let q = measure_task_of c.args.request.now in
    let a = told c.args.desk.now in
    run-refused (measure_sources q) [] (AnswersRightly answer_outcome (IsMeasureAnswer q a)) a (told c.read_routed.new.desk)
    (told c.refuse.new.desk) c.refuse.result NoMemory (refl, (refl, tt)) tt (sources-memory {sources = measure_sources q} c.in-Ok.ensures.reads)
    c.refuse.ensures.status c.refuse.ensures.says

pub returns : goal.returns
returns g c =
    let told = g.D.Desk.told in
    let q = measure_task_of c.args.request.now in
    let a = told c.args.desk.now in
    run-refused (measure_sources q) [] (AnswersRightly answer_outcome (IsMeasureAnswer q a)) a (told c.read_routed.new.desk)
    (told c.refuse-in-Err.new.desk) c.refuse-in-Err.result c.in-Err.refusal (refl, (refl, tt)) tt c.in-Err.ensures.reads
    c.refuse-in-Err.ensures.status c.refuse-in-Err.ensures.says
