use Rattle.std.proofs.Common.{[], false, refl}
use Rattle.cert_text.specs.CertText.{cert_text}
use Rattle.gr_desk.specs.declared.port.Port.TheVariants.{CertOut}
use Rattle.command_runs.proofs.LeftOutcomes.{leaves-file, leaves-text, leaves-unmade}
use Rattle.climb_cli.specs.ClimbLines.{climbed_text}
use Rattle.climb_cli.specs.ClimbRun.{climb_task_of}
use Rattle.climb_cli.proofs.ClimbRuns.{climb-outputs}
use Rattle.climb_cli.proofs.climbing.finish.Goals as goal

pub returns-in-Ok : goal.returns-in-Ok
returns-in-Ok g c =
    let told = g.D.Desk.told in
    let q = climb_task_of c.args.request.now in
    let new = c.args.new.now in
    leaves-file (record { port = CertOut; name = q.climbed }) [] (cert_text new.cert) (record { texts = []; report = climbed_text new; objects = false })
    (told c.args.desk.now) (told c.make_cert.new.desk) (told c.say.new.desk) c.say.result c.make_cert.result
    (climb-outputs q) (rw c.in-Ok.is refl) c.make_cert.ensures
    (leaves-text (climbed_text new) false (told c.make_cert.new.desk) (told c.say.new.desk) c.say.result c.say.ensures)

pub returns-in-Err : goal.returns-in-Err
returns-in-Err g c =
    let told = g.D.Desk.told in
    let q = climb_task_of c.args.request.now in
    let new = c.args.new.now in
    let said = c.say_unwritten.ensures in
    leaves-unmade (record { port = CertOut; name = q.climbed }) [] (cert_text new.cert) [] (climbed_text new)
    (told c.args.desk.now) (told c.make_cert.new.desk) (told c.say_unwritten.new.desk) c.say_unwritten.result c.make_cert.result
    (climb-outputs q) (rw c.in-Err.is refl) c.make_cert.ensures said.status said.says
