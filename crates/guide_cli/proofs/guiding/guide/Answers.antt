use Rattle.std.proofs.Common.{refl, ◌∙◌, ap, true, inl, inr}
use Rattle.command_runs.specs.declared.refusal.Refusal.TheVariants.{NoMemory}
use Rattle.command_runs.specs.AnsweredRun.{AnswersRightly}
use Rattle.command_runs.specs.Lines.{status_of}
use Rattle.command_runs.proofs.EndedRuns.{run-left, run-refused}
use Rattle.command_runs.proofs.LeftOutcomes.{leaves-text}
use Rattle.command_runs.proofs.ReadFiles.{sources-memory}
use Rattle.judge_cli.specs.declared.answer.Answer.TheVariants as answers
use Rattle.judge_cli.specs.AnswerLines.{answer_text}
use Rattle.guide_cli.specs.declared.guide_answer.GuideAnswer.{GuideAnswer}
use Rattle.guide_cli.specs.declared.guide_answer.GuideAnswer.TheVariants.{Guided, No}
use Rattle.guide_cli.specs.GuideLines.{guide_outcome}
use Rattle.guide_cli.specs.GuideRun.{IsGuideAnswer, guide_files, guide_sources, guide_task_of}
use Rattle.guide_cli.proofs.FarDesigns.{never_far}
use Rattle.guide_cli.proofs.GuidedRuns.{far-run, guide-inputs, guide-outputs}
use Rattle.guide_cli.proofs.guiding.guide.Goals as goal

pub returns-in-Ok-Far : goal.returns-in-Ok-Far
returns-in-Ok-Far g c =
    let told = g.D.Desk.told in
    let q = guide_task_of c.args.request.now in
    let said = c.refuse_far.ensures in
    inr (far-run q (told c.args.desk.now) (told c.read_guided.new.desk) (told c.refuse_far.new.desk) c.refuse_far.result
    (rw c.in-Ok-Far.field-0-is at c.in-Ok-Far.ensures.read) (rw c.in-Ok-Far.field-0-is at c.in-Ok-Far.ensures.reads) said.status said.says)

pub returns-in-Ok-Guided : goal.returns-in-Ok-Guided
returns-in-Ok-Guided g c =
    let told = g.D.Desk.told in
    let q = guide_task_of c.args.request.now in
    let a = told c.args.desk.now in
    let b = told c.read_guided.new.desk in
    let r = c.in-Ok-Routes.read in
    let d = r.grounded.design in
    let read = rw c.in-Ok-Routes.field-0-is at c.in-Ok-Routes.ensures.read in
    let reads = rw c.in-Ok-Routes.field-0-is at c.in-Ok-Routes.ensures.reads in
    let answer : GuideAnswer = Guided c.in-Ok-Guided.guided in
    inl (record {
      run = run-left (guide_sources q) (guide_files q) (AnswersRightly guide_outcome (IsGuideAnswer q a)) a b (told c.finish.new.desk) c.finish.result
          (guide_outcome answer) (guide-inputs q) (guide-outputs q) (
            answer,
            record {
              design = d;
              grounds = r.grounded.grounds.items;
              blocks = r.blocks;
              are_read = read.0;
              near = read.2;
              is_true = rw c.in-Ok-Guided.field-0-is at c.in-Ok-Guided.ensures;
            },
            refl,
          )
          reads c.finish.ensures;
      near = λ bytes under far. absurd (never_far q.input a d read.0.named read.2 bytes under far);
    })

pub returns-in-Ok-No : goal.returns-in-Ok-No
returns-in-Ok-No g c =
    let told = g.D.Desk.told in
    let q = guide_task_of c.args.request.now in
    let a = told c.args.desk.now in
    let b = told c.read_guided.new.desk in
    let r = c.in-Ok-Routes.read in
    let d = r.grounded.design in
    let read = rw c.in-Ok-Routes.field-0-is at c.in-Ok-Routes.ensures.read in
    let reads = rw c.in-Ok-Routes.field-0-is at c.in-Ok-Routes.ensures.reads in
    let reason = c.in-Ok-No.reason in
    let answer : GuideAnswer = No reason in
    inl (record {
      run = run-left (guide_sources q) (guide_files q) (AnswersRightly guide_outcome (IsGuideAnswer q a)) a b (told c.say.new.desk) c.say.result
          (guide_outcome answer) (guide-inputs q) (guide-outputs q) (
            answer,
            record {
              design = d;
              grounds = r.grounded.grounds.items;
              blocks = r.blocks;
              are_read = read.0;
              near = read.2;
              is_true = rw c.in-Ok-No.field-0-is at c.in-Ok-No.ensures;
            },
            refl,
          )
          reads (leaves-text (answer_text (answers.No reason)) true b (told c.say.new.desk) c.say.result c.say.ensures);
      near = λ bytes under far. absurd (never_far q.input a d read.0.named read.2 bytes under far);
    })

pub returns-in-Ok-Routes : goal.returns-in-Ok-Routes
returns-in-Ok-Routes g c =
    let told = g.D.Desk.told in
    let q = guide_task_of c.args.request.now in
    let a = told c.args.desk.now in
    let reads = rw c.in-Ok-Routes.field-0-is at c.in-Ok-Routes.ensures.reads in
    let said = c.refuse.ensures in
    inl (record {
      run = run-refused (guide_sources q) (guide_files q) (AnswersRightly guide_outcome (IsGuideAnswer q a)) a (told c.read_guided.new.desk)
          (told c.refuse.new.desk) c.refuse.result NoMemory (guide-inputs q) (guide-outputs q) (sources-memory {sources = guide_sources q} reads) said.status said.says;
      near = λ bytes under far. inr said.status;
    })

pub returns : goal.returns
returns g c =
    let told = g.D.Desk.told in
    let q = guide_task_of c.args.request.now in
    let a = told c.args.desk.now in
    let reads = c.in-Err.ensures.reads in
    let said = c.refuse-in-Err.ensures in
    inl (record {
      run = run-refused (guide_sources q) (guide_files q) (AnswersRightly guide_outcome (IsGuideAnswer q a)) a (told c.read_guided.new.desk)
          (told c.refuse-in-Err.new.desk) c.refuse-in-Err.result c.in-Err.refusal (guide-inputs q) (guide-outputs q) reads.0 said.status said.says;
      near = λ bytes under far. elim (reads.1 bytes under far) [
        | inl unread ↦ inl (said.status ∙ ap status_of unread)
        | inr memory ↦ inr (said.status ∙ ap status_of memory)
      ];
    })
