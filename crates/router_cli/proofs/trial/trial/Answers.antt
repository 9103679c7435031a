use Rattle.std.proofs.Common.{[], ℕ, false, refl}
use Rattle.command_runs.proofs.EndedRuns.{run-left, run-refused}
use Rattle.command_runs.proofs.LeftOutcomes.{leaves-text}
use Rattle.command_runs.proofs.ReadFiles.{reads-none, reads-unbegun}
use Rattle.router_cli.specs.TrialRun.{IsTrialOutcome, trial_task_of, trial_text, tried_outcome}
use Rattle.router_cli.proofs.trial.trial.Goals as goal

pub returns-in-Ok : goal.returns-in-Ok
returns-in-Ok g c =
    let told = g.D.Desk.told in
    let a = told c.args.desk.now in
    let b = told c.say.new.desk in
    let r = c.in-Ok.routed in
    run-left [] [] (IsTrialOutcome (trial_task_of c.args.request.now)) a a b c.say.result (tried_outcome r) tt tt
    c.in-Ok.ensures.outcome (reads-none a r)
    (leaves-text (trial_text r.rounded r.rounds r.cert) false a b c.say.result c.say.ensures)

pub returns-in-Err : goal.returns-in-Err
returns-in-Err g c =
    let told = g.D.Desk.told in
    let a = told c.args.desk.now in
    let r = c.in-Err.refusal in
    run-refused [] [] (IsTrialOutcome (trial_task_of c.args.request.now)) a a (told c.refuse.new.desk) c.refuse.result
    r tt tt (reads-unbegun {T = ℕ} [] a r (c.in-Err.ensures.refused r refl)) c.refuse.ensures.status c.refuse.ensures.says
