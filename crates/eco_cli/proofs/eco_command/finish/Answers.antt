use Rattle.std.proofs.Common.{[], false, refl}
use Rattle.gr_desk.specs.declared.port.Port.TheVariants.{RoutesOut}
use Rattle.route_text.specs.RouteText.{routes_text}
use Rattle.command_runs.proofs.LeftOutcomes.{leaves-file, leaves-text, leaves-unmade}
use Rattle.eco_cli.specs.EcoLines.{eco_report_text}
use Rattle.eco_cli.specs.EcoRun.{eco_task_of}
use Rattle.eco_cli.proofs.EcoRuns.{eco-outputs}
use Rattle.eco_cli.proofs.eco_command.finish.Goals as goal

pub returns-in-Ok : goal.returns-in-Ok
returns-in-Ok g c =
    let told = g.D.Desk.told in
    let a = told c.args.desk.now in
    let b = told c.make_routes.new.desk in
    let d = told c.say.new.desk in
    let q = eco_task_of c.args.request.now in
    let edited = c.args.edited.now in
    let eco = edited.eco in
    let line = eco_report_text edited.report in
    leaves-file (record { port = RoutesOut; name = q.edited }) [] (routes_text eco.design.grid eco.design.nets eco.sets) (record { texts = []; report = line; objects = false })
    a b d c.say.result c.make_routes.result (eco-outputs q) (rw c.in-Ok.is refl) (rw (c.design.ensures, c.trees.ensures.sets) at c.make_routes.ensures)
    (leaves-text line false b d c.say.result c.say.ensures)

pub returns-in-Err : goal.returns-in-Err
returns-in-Err g c =
    let told = g.D.Desk.told in
    let a = told c.args.desk.now in
    let b = told c.make_routes.new.desk in
    let d = told c.say_unwritten.new.desk in
    let q = eco_task_of c.args.request.now in
    let edited = c.args.edited.now in
    let eco = edited.eco in
    let said = c.say_unwritten.ensures in
    leaves-unmade (record { port = RoutesOut; name = q.edited }) [] (routes_text eco.design.grid eco.design.nets eco.sets) [] (eco_report_text edited.report) a b d
    c.say_unwritten.result c.make_routes.result (eco-outputs q) (rw c.in-Err.is refl) (rw (c.design.ensures, c.trees.ensures.sets) at c.make_routes.ensures) said.status said.says
