use Rattle.std.proofs.Common.{[], ◌∷◌, refl}
use Rattle.std.proofs.lemmas.Slice.Zip.{AllZip-long}
use Rattle.cert_text.specs.CertText.{cert_text}
use Rattle.gr_desk.specs.declared.port.Port.TheVariants.{RoutesOut, CertOut}
use Rattle.command_runs.proofs.LeftOutcomes.{leaves-file, leaves-unmade}
use Rattle.route_text.specs.RouteText.{routes_text}
use Rattle.tree_set.specs.Routings.{IsRoute}
use Rattle.router_cli.specs.Headline.{routed_outcome}
use Rattle.router_cli.specs.Tasks.{task_of}
use Rattle.router_cli.proofs.RouteFiles.{route-outputs}
use Rattle.router_cli.proofs.Routed.{routes_are_pieces}
use Rattle.router_cli.proofs.route.finish.Goals as goal

pub make_routes-requires-clause-one_each : goal.make_routes-requires-clause-one_each
make_routes-requires-clause-one_each g c =
    let d = c.args.routed.now.design in
    rw c.list.ensures (AllZip-long (IsRoute d.grid) d.nets c.args.routed.now.trees c.requires.routed.routing)

pub make_routes-requires-clause-pieces : goal.make_routes-requires-clause-pieces
make_routes-requires-clause-pieces g c =
    let d = c.args.routed.now.design in
    rw c.list.ensures (routes_are_pieces d.grid d.nets c.args.routed.now.trees c.requires.routed.routing)

pub returns-in-Ok : goal.returns-in-Ok
returns-in-Ok g c =
    let told = g.D.Desk.told in
    let q = task_of c.args.request.now in
    let r = c.args.routed.now in
    leaves-file (record { port = RoutesOut; name = q.routes }) (record { port = CertOut; name = q.cert } ∷ [])
    (routes_text r.design.grid r.design.nets r.trees) (record (routed_outcome r) { texts = cert_text r.cert ∷ [] })
    (told c.args.desk.now) (told c.make_routes.new.desk) (told c.certify.new.desk) c.certify.result c.make_routes.result
    (route-outputs q) (rw c.in-Ok.is refl) (rw c.list.ensures at c.make_routes.ensures) c.certify.ensures

pub returns-in-Err : goal.returns-in-Err
returns-in-Err g c =
    let told = g.D.Desk.told in
    let q = task_of c.args.request.now in
    let r = c.args.routed.now in
    let said = c.say_unwritten.ensures in
    leaves-unmade (record { port = RoutesOut; name = q.routes }) (record { port = CertOut; name = q.cert } ∷ [])
    (routes_text r.design.grid r.design.nets r.trees) (cert_text r.cert ∷ []) (routed_outcome r).report
    (told c.args.desk.now) (told c.make_routes.new.desk) (told c.say_unwritten.new.desk) c.say_unwritten.result
    c.make_routes.result
    (route-outputs q) (rw c.in-Err.is refl) (rw c.list.ensures at c.make_routes.ensures) said.status said.says
