use Rattle.std.proofs.Common.{[], false, refl}
use Rattle.std.proofs.lemmas.Slice.Zip.{AllZip-long}
use Rattle.gr_desk.specs.declared.port.Port.TheVariants.{RoutesOut}
use Rattle.command_runs.proofs.LeftOutcomes.{leaves-file, leaves-text, leaves-unmade}
use Rattle.route_judge.specs.NetSets.{IsJoining}
use Rattle.route_text.specs.RouteText.{routes_text}
use Rattle.reroute_cli.specs.Report.{reroute_report_text}
use Rattle.reroute_cli.proofs.GivenSets.{are_pieces, joining_unwalled}
use Rattle.reroute_cli.proofs.WholeRuns.{new-output}
use Rattle.reroute_cli.proofs.rerouting.finish.Goals as goal

pub make_routes-requires-clause-one_each : goal.make_routes-requires-clause-one_each
make_routes-requires-clause-one_each g c =
    let d = c.args.new.now.design in
    rw c.list-trees.ensures (AllZip-long (IsJoining d.grid) d.nets c.args.new.now.rerouted.trees c.requires)

pub make_routes-requires-clause-pieces : goal.make_routes-requires-clause-pieces
make_routes-requires-clause-pieces g c =
    let d = c.args.new.now.design in
    let trees = c.args.new.now.rerouted.trees in
    rw c.list-trees.ensures (are_pieces d.grid trees (joining_unwalled d.grid d.nets trees c.requires))

pub returns-in-Ok : goal.returns-in-Ok
returns-in-Ok g c =
    let told = g.D.Desk.told in
    let new = c.args.new.now in
    leaves-file (record { port = RoutesOut; name = c.args.output.now }) [] (routes_text new.design.grid new.design.nets new.rerouted.trees)
    (record { texts = []; report = reroute_report_text new.report; objects = false })
    (told c.args.desk.now) (told c.make_routes.new.desk) (told c.say.new.desk) c.say.result c.make_routes.result
    (new-output c.args.output.now) (rw c.in-Ok.is refl) (rw c.list-trees.ensures at c.make_routes.ensures)
    (leaves-text (reroute_report_text new.report) false (told c.make_routes.new.desk) (told c.say.new.desk) c.say.result c.say.ensures)

pub returns-in-Err : goal.returns-in-Err
returns-in-Err g c =
    let told = g.D.Desk.told in
    let new = c.args.new.now in
    let said = c.say_unwritten.ensures in
    leaves-unmade (record { port = RoutesOut; name = c.args.output.now }) [] (routes_text new.design.grid new.design.nets new.rerouted.trees) [] (reroute_report_text new.report)
    (told c.args.desk.now) (told c.make_routes.new.desk) (told c.say_unwritten.new.desk) c.say_unwritten.result c.make_routes.result
    (new-output c.args.output.now) (rw c.in-Err.is refl) (rw c.list-trees.ensures at c.make_routes.ensures) said.status said.says
