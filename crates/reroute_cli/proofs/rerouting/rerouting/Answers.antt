use Rattle.std.proofs.Common.{sym, subst, true}
use Rattle.command_runs.specs.declared.refusal.Refusal.TheVariants.{NoMemory}
use Rattle.command_runs.proofs.LeftOutcomes.{leaves-text}
use Rattle.command_runs.proofs.ReadFiles.{sources-memory}
use Rattle.command_words.specs.RerouteLine.{reroute_task_of}
use Rattle.grid_graph.specs.declared.design.Design.{Design}
use Rattle.judge_cli.specs.AnswerLines.{reason_text}
use Rattle.route_judge.specs.NetSets.{AreJoining}
use Rattle.reroute_cli.specs.declared.outcome.Outcome.TheVariants.{Rerouted, Objected}
use Rattle.reroute_cli.specs.RerouteHeadline.{IsReroutedOr, reroute_settings_of}
use Rattle.reroute_cli.specs.RerouteRun.{reroute_sources}
use Rattle.reroute_cli.proofs.GivenSets.{rerouted_join}
use Rattle.reroute_cli.proofs.WholeRuns.{run-rerouted, run-not_rerouted}
use Rattle.reroute_cli.proofs.rerouting.rerouting.Goals as goal

pub finish-requires : goal.finish-requires
finish-requires g c =
    let r = c.in-Ok.read in
    let new = c.in-Ok-Rerouted.new in
    let is : IsReroutedOr r.grounded.design r.grounded.grounds.items r.blocks (reroute_settings_of (reroute_task_of c.args.request.now)) (Rerouted new) =
    rw (c.in-Ok-Rerouted.field-0-is, c.settings_of-settings.ensures.value) at c.in-Ok-Rerouted.ensures in
    let all = is.2 in
    subst (λ (d : Design). AreJoining d new.rerouted.trees) (sym is.0)
    (rerouted_join c.in-Ok.read.grounded.design all.given all.missing (reroute_settings_of (reroute_task_of c.args.request.now)) new.rerouted all.rerouted)

pub returns-in-Ok-Rerouted : goal.returns-in-Ok-Rerouted
returns-in-Ok-Rerouted g c =
    let told = g.D.Desk.told in
    let r = c.in-Ok.read in
    let read = c.in-Ok.ensures in
    run-rerouted (reroute_task_of c.args.request.now) (told c.args.desk.now) (told c.read_given.new.desk) (told c.finish.new.desk)
    c.finish.result (Rerouted c.in-Ok-Rerouted.new)
    (record {
      design = r.grounded.design;
      grounds = r.grounded.grounds.items;
      blocks = r.blocks;
      are_read = read.are_read;
      comes = rw (c.in-Ok-Rerouted.field-0-is, c.settings_of-settings.ensures.value) at c.in-Ok-Rerouted.ensures;
    })
    read.reads c.finish.ensures

pub returns-in-Ok-Objected : goal.returns-in-Ok-Objected
returns-in-Ok-Objected g c =
    let told = g.D.Desk.told in
    let b = told c.read_given.new.desk in
    let r = c.in-Ok.read in
    let read = c.in-Ok.ensures in
    let reason = c.in-Ok-Objected.reason in
    run-rerouted (reroute_task_of c.args.request.now) (told c.args.desk.now) b (told c.say.new.desk) c.say.result (Objected reason)
    (record {
      design = r.grounded.design;
      grounds = r.grounded.grounds.items;
      blocks = r.blocks;
      are_read = read.are_read;
      comes = rw c.in-Ok-Objected.field-0-is at c.in-Ok-Objected.ensures;
    })
    read.reads (leaves-text (reason_text reason) true b (told c.say.new.desk) c.say.result c.say.ensures)

pub returns-in-Err-outcome_of : goal.returns-in-Err-outcome_of
returns-in-Err-outcome_of g c =
    let told = g.D.Desk.told in
    let q = reroute_task_of c.args.request.now in
    run-not_rerouted q (told c.args.desk.now) (told c.read_given.new.desk)
    (told c.refuse.new.desk) c.refuse.result NoMemory (sources-memory {sources = reroute_sources q.input q.routes} c.in-Ok.ensures.reads) c.refuse.ensures.status
    c.refuse.ensures.says

pub returns-in-Err : goal.returns-in-Err
returns-in-Err g c =
    let told = g.D.Desk.told in
    run-not_rerouted (reroute_task_of c.args.request.now) (told c.args.desk.now) (told c.read_given.new.desk)
    (told c.refuse-in-Err.new.desk) c.refuse-in-Err.result c.in-Err.refusal c.in-Err.ensures.reads c.refuse-in-Err.ensures.status
    c.refuse-in-Err.ensures.says
