use Rattle.std.proofs.Common.{◌≡◌, refl}
use Rattle.command_runs.specs.Sources.{design_source}
use Rattle.command_runs.proofs.EndedRuns.{run-left, run-refused}
use Rattle.router_cli.specs.Headline.{IsRoutedDesign, IsRouteOutcome, routed_outcome}
use Rattle.router_cli.specs.RouteRun.{route_files}
use Rattle.router_cli.specs.Tasks.{task_of}
use Rattle.router_cli.proofs.RouteFiles.{route-outputs}
use Rattle.router_cli.proofs.route.route.Goals as goal

pub returns-in-Ok : goal.returns-in-Ok
returns-in-Ok g c =
    let told = g.D.Desk.told in
    let q = task_of c.args.request.now in
    let done = c.in-Ok.ensures in
    let r = c.in-Ok.routed in
    let is_true : IsRoutedDesign q.settings r = rw c.settings_of-settings.ensures at done.routed in
    run-left (design_source q.input) (route_files q) (IsRouteOutcome q.input q.settings (told c.args.desk.now))
    (told c.args.desk.now) (told c.prepare.new.desk) (told c.finish.new.desk) c.finish.result (routed_outcome r)
    (refl, tt) (route-outputs q) (record { routed = r; named = done.named; is_true = is_true; outcome_is = refl }) done.reads
    c.finish.ensures

pub returns-in-Err : goal.returns-in-Err
returns-in-Err g c =
    let told = g.D.Desk.told in
    let q = task_of c.args.request.now in
    run-refused (design_source q.input) (route_files q) (IsRouteOutcome q.input q.settings (told c.args.desk.now))
    (told c.args.desk.now) (told c.prepare.new.desk) (told c.refuse.new.desk) c.refuse.result c.in-Err.refusal
    (refl, tt) (route-outputs q) c.in-Err.ensures.reads c.refuse.ensures.status c.refuse.ensures.says
