use Rattle.std.proofs.Common.{refl, sym, subst, lit<, string_bytes, map}
use Rattle.command_words.specs.CommandLine.{AsksForRoute, AsksForMeasure, AsksForJudge, AsksForMake, AsksForTrial, AsksForEco, AsksForClimb, AsksForGuide, HasRouteRanges, HasTrialRanges, HasClimbRanges}
use Rattle.command_words.specs.CommandLine.{route_form, measure_form, judge_form, make_form, trial_form, eco_form, climb_form, guide_form}
use Rattle.climb_cli.specs.ClimbRun.{IsClimbRun, ClimbTask, climb_task_of_words}
use Rattle.eco_cli.specs.EcoInputs.{EcoTask}
use Rattle.eco_cli.specs.EcoRun.{IsEcoRun, eco_task_of_words}
use Rattle.guide_cli.specs.GuideRun.{IsGuideRun, GuideTask, guide_task_of_words}
use Rattle.judge_cli.specs.JudgeRun.{IsJudgeRun, JudgeTask, judge_task_of_words}
use Rattle.router_cli.specs.MakeRun.{IsMakeRun, MakeTask, make_task_of_words}
use Rattle.judge_cli.specs.MeasureRun.{IsMeasureRun, MeasureTask, measure_task_of_words}
use Rattle.router_cli.specs.RouteRun.{IsRouteRun}
use Rattle.router_cli.specs.Tasks.{RouteTask, task_of_words}
use Rattle.router_cli.specs.TrialRun.{IsTrialRun, TrialTask, trial_task_of_words}
use Rattle.router_cli.proofs.CommandRuns.{measure_task-asked, judge_task-asked, climb_task-asked, eco_task-asked, guide_task-asked, run-of_command, run-without_memory, run-without_command}
use Rattle.router_cli.proofs.Tasks.{make_task-asked, settings-in_range, task_of-asked, trial_task-asked}
use Rattle.router_cli.proofs.top.run.Goals as goal

pub route-requires-clause-settings : goal.route-requires-clause-settings
route-requires-clause-settings g c =
    let ranges : HasRouteRanges c.in-Ok-Route.request = rw c.in-Ok-Route.field-0-is at c.in-Ok-Route.ensures.ranges in
    λ _ _. settings-in_range c.in-Ok-Route.request ranges

pub returns-in-Ok-Route : goal.returns-in-Ok-Route
returns-in-Ok-Route g c =
    let words = map string_bytes c.args.words.now.items in
    let told = g.D.Desk.told in
    let r = c.in-Ok-Route.request in
    let asks : AsksForRoute words r = rw (c.as_slice.ensures.value, c.in-Ok-Route.field-0-is) at c.in-Ok-Route.ensures.asked in
    let run : IsRouteRun (task_of_words words) (told c.args.desk.now) (told c.route.new.desk) c.route.result =
    subst (λ (q : RouteTask). IsRouteRun q (told c.args.desk.now) (told c.route.new.desk) c.route.result) (sym (task_of-asked words r asks)) c.route.ensures in
    run-of_command c.args.words.now.items (told c.args.desk.now) (told c.route.new.desk) c.route.result route_form (0, lit< tt, refl) asks.is_route
    (λ _. run) (λ h. cc) (λ h. cc) (λ h. cc) (λ h. cc) (λ h. cc) (λ h. cc) (λ h. cc)

pub returns-in-Ok-Measure : goal.returns-in-Ok-Measure
returns-in-Ok-Measure g c =
    let words = map string_bytes c.args.words.now.items in
    let told = g.D.Desk.told in
    let r = c.in-Ok-Measure.request in
    let asks : AsksForMeasure words r = rw (c.as_slice.ensures.value, c.in-Ok-Measure.field-0-is) at c.in-Ok-Measure.ensures.asked in
    let run : IsMeasureRun (measure_task_of_words words) (told c.args.desk.now) (told c.measure.new.desk) c.measure.result =
    subst (λ (q : MeasureTask). IsMeasureRun q (told c.args.desk.now) (told c.measure.new.desk) c.measure.result) (sym (measure_task-asked words r asks)) c.measure.ensures in
    run-of_command c.args.words.now.items (told c.args.desk.now) (told c.measure.new.desk) c.measure.result measure_form (1, lit< tt, refl) asks.is_measure
    (λ h. cc) (λ _. run) (λ h. cc) (λ h. cc) (λ h. cc) (λ h. cc) (λ h. cc) (λ h. cc)

pub returns-in-Ok-Judge : goal.returns-in-Ok-Judge
returns-in-Ok-Judge g c =
    let words = map string_bytes c.args.words.now.items in
    let told = g.D.Desk.told in
    let r = c.in-Ok-Judge.request in
    let asks : AsksForJudge words r = rw (c.as_slice.ensures.value, c.in-Ok-Judge.field-0-is) at c.in-Ok-Judge.ensures.asked in
    let run : IsJudgeRun (judge_task_of_words words) (told c.args.desk.now) (told c.judge.new.desk) c.judge.result =
    subst (λ (q : JudgeTask). IsJudgeRun q (told c.args.desk.now) (told c.judge.new.desk) c.judge.result) (sym (judge_task-asked words r asks)) c.judge.ensures in
    run-of_command c.args.words.now.items (told c.args.desk.now) (told c.judge.new.desk) c.judge.result judge_form (2, lit< tt, refl) asks.is_judge
    (λ h. cc) (λ h. cc) (λ _. run) (λ h. cc) (λ h. cc) (λ h. cc) (λ h. cc) (λ h. cc)

pub returns-in-Ok-Make : goal.returns-in-Ok-Make
returns-in-Ok-Make g c =
    let words = map string_bytes c.args.words.now.items in
    let told = g.D.Desk.told in
    let r = c.in-Ok-Make.request in
    let asks : AsksForMake words r = rw (c.as_slice.ensures.value, c.in-Ok-Make.field-0-is) at c.in-Ok-Make.ensures.asked in
    let run : IsMakeRun (make_task_of_words words) (told c.args.desk.now) (told c.make.new.desk) c.make.result =
    subst (λ (q : MakeTask). IsMakeRun q (told c.args.desk.now) (told c.make.new.desk) c.make.result) (sym (make_task-asked words r asks)) c.make.ensures in
    run-of_command c.args.words.now.items (told c.args.desk.now) (told c.make.new.desk) c.make.result make_form (3, lit< tt, refl) asks.is_make
    (λ h. cc) (λ h. cc) (λ h. cc) (λ _. run) (λ h. cc) (λ h. cc) (λ h. cc) (λ h. cc)

pub trial-requires-clause-ranges : goal.trial-requires-clause-ranges
trial-requires-clause-ranges g c =
    let ranges : HasTrialRanges c.in-Ok-Trial.request = rw c.in-Ok-Trial.field-0-is at c.in-Ok-Trial.ensures.ranges in
    λ _ _. ranges

pub returns-in-Ok-Trial : goal.returns-in-Ok-Trial
returns-in-Ok-Trial g c =
    let words = map string_bytes c.args.words.now.items in
    let told = g.D.Desk.told in
    let r = c.in-Ok-Trial.request in
    let asks : AsksForTrial words r = rw (c.as_slice.ensures.value, c.in-Ok-Trial.field-0-is) at c.in-Ok-Trial.ensures.asked in
    let run : IsTrialRun (trial_task_of_words words) (told c.args.desk.now) (told c.trial.new.desk) c.trial.result =
    subst (λ (q : TrialTask). IsTrialRun q (told c.args.desk.now) (told c.trial.new.desk) c.trial.result) (sym (trial_task-asked words r asks)) c.trial.ensures in
    run-of_command c.args.words.now.items (told c.args.desk.now) (told c.trial.new.desk) c.trial.result trial_form (4, lit< tt, refl) asks.is_trial
    (λ h. cc) (λ h. cc) (λ h. cc) (λ h. cc) (λ _. run) (λ h. cc) (λ h. cc) (λ h. cc)

pub returns-in-Ok-Eco : goal.returns-in-Ok-Eco
returns-in-Ok-Eco g c =
    let words = map string_bytes c.args.words.now.items in
    let told = g.D.Desk.told in
    let r = c.in-Ok-Eco.request in
    let asks : AsksForEco words r = rw (c.as_slice.ensures.value, c.in-Ok-Eco.field-0-is) at c.in-Ok-Eco.ensures.asked in
    let run : IsEcoRun (eco_task_of_words words) (told c.args.desk.now) (told c.eco.new.desk) c.eco.result =
    subst (λ (q : EcoTask). IsEcoRun q (told c.args.desk.now) (told c.eco.new.desk) c.eco.result) (sym (eco_task-asked words r asks)) c.eco.ensures in
    run-of_command c.args.words.now.items (told c.args.desk.now) (told c.eco.new.desk) c.eco.result eco_form (5, lit< tt, refl) asks.is_eco
    (λ h. cc) (λ h. cc) (λ h. cc) (λ h. cc) (λ h. cc) (λ _. run) (λ h. cc) (λ h. cc)

pub climb-requires-clause-ranges : goal.climb-requires-clause-ranges
climb-requires-clause-ranges g c =
    let ranges : HasClimbRanges c.in-Ok-Climb.request = rw c.in-Ok-Climb.field-0-is at c.in-Ok-Climb.ensures.ranges in
    λ _ _. ranges

pub returns-in-Ok-Climb : goal.returns-in-Ok-Climb
returns-in-Ok-Climb g c =
    let words = map string_bytes c.args.words.now.items in
    let told = g.D.Desk.told in
    let r = c.in-Ok-Climb.request in
    let asks : AsksForClimb words r = rw (c.as_slice.ensures.value, c.in-Ok-Climb.field-0-is) at c.in-Ok-Climb.ensures.asked in
    let run : IsClimbRun (climb_task_of_words words) (told c.args.desk.now) (told c.climb.new.desk) c.climb.result =
    subst (λ (q : ClimbTask). IsClimbRun q (told c.args.desk.now) (told c.climb.new.desk) c.climb.result) (sym (climb_task-asked words r asks)) c.climb.ensures in
    run-of_command c.args.words.now.items (told c.args.desk.now) (told c.climb.new.desk) c.climb.result climb_form (6, lit< tt, refl) asks.is_climb
    (λ h. cc) (λ h. cc) (λ h. cc) (λ h. cc) (λ h. cc) (λ h. cc) (λ _. run) (λ h. cc)

pub returns-in-Ok-Guide : goal.returns-in-Ok-Guide
returns-in-Ok-Guide g c =
    let words = map string_bytes c.args.words.now.items in
    let told = g.D.Desk.told in
    let r = c.in-Ok-Guide.request in
    let asks : AsksForGuide words r = rw (c.as_slice.ensures.value, c.in-Ok-Guide.field-0-is) at c.in-Ok-Guide.ensures.asked in
    let run : IsGuideRun (guide_task_of_words words) (told c.args.desk.now) (told c.guide.new.desk) c.guide.result =
    subst (λ (q : GuideTask). IsGuideRun q (told c.args.desk.now) (told c.guide.new.desk) c.guide.result) (sym (guide_task-asked words r asks)) c.guide.ensures in
    run-of_command c.args.words.now.items (told c.args.desk.now) (told c.guide.new.desk) c.guide.result guide_form (7, lit< tt, refl) asks.is_guide
    (λ h. cc) (λ h. cc) (λ h. cc) (λ h. cc) (λ h. cc) (λ h. cc) (λ h. cc) (λ _. run)

pub returns-in-Err-Refused : goal.returns-in-Err-Refused
returns-in-Err-Refused g c =
    let told = g.D.Desk.told in
    let said = c.refuse.ensures in
    run-without_command c.args.words.now.items (told c.args.desk.now) (told c.refuse.new.desk) c.refuse.result
    (rw c.as_slice.ensures.value at (c.in-Err-Refused.ensures.refused c.in-Err-Refused.field-0-is)) said.status said.says

pub returns-in-Err-NoMemory : goal.returns-in-Err-NoMemory
returns-in-Err-NoMemory g c =
    let told = g.D.Desk.told in
    let said = c.refuse-in-Err-NoMemory.ensures in
    run-without_memory c.args.words.now.items (told c.args.desk.now) (told c.refuse-in-Err-NoMemory.new.desk) c.refuse-in-Err-NoMemory.result said.status said.says
