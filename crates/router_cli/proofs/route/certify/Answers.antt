use Rattle.std.proofs.Common.{[], false, refl}
use Rattle.cert_text.specs.CertText.{cert_text}
use Rattle.gr_desk.specs.declared.port.Port.TheVariants.{CertOut}
use Rattle.command_runs.proofs.LeftOutcomes.{leaves-file, leaves-text, leaves-unmade}
use Rattle.router_cli.specs.Headline.{routed_outcome}
use Rattle.router_cli.specs.Tasks.{task_of}
use Rattle.router_cli.proofs.RouteFiles.{cert-output}
use Rattle.router_cli.proofs.route.certify.Goals as goal

pub returns-in-Ok : goal.returns-in-Ok
returns-in-Ok g c =
    let told = g.D.Desk.told in
    let q = task_of c.args.request.now in
    let r = c.args.routed.now in
    leaves-file (record { port = CertOut; name = q.cert }) [] (cert_text r.cert) (record (routed_outcome r) { texts = [] })
    (told c.args.desk.now) (told c.make_cert.new.desk) (told c.say.new.desk) c.say.result c.make_cert.result
    (cert-output q.cert) (rw c.in-Ok.is refl) c.make_cert.ensures
    (leaves-text (routed_outcome r).report false (told c.make_cert.new.desk) (told c.say.new.desk) c.say.result
    c.say.ensures)

pub returns-in-Err : goal.returns-in-Err
returns-in-Err g c =
    let told = g.D.Desk.told in
    let q = task_of c.args.request.now in
    let r = c.args.routed.now in
    let said = c.say_unwritten.ensures in
    leaves-unmade (record { port = CertOut; name = q.cert }) [] (cert_text r.cert) [] (routed_outcome r).report
    (told c.args.desk.now) (told c.make_cert.new.desk) (told c.say_unwritten.new.desk) c.say_unwritten.result
    c.make_cert.result
    (cert-output q.cert) (rw c.in-Err.is refl) c.make_cert.ensures said.status said.says
