use Rattle.std.proofs.Common.{[], false, refl}
use Rattle.cert_text.specs.CertText.{cert_text}
use Rattle.gr_desk.specs.declared.port.Port.TheVariants.{CertOut}
use Rattle.command_runs.proofs.LeftOutcomes.{leaves-file, leaves-text, leaves-unmade}
use Rattle.unavoidable_cli.specs.Report.{finding_report}
use Rattle.unavoidable_cli.specs.Words.{unavoidable_task_of}
use Rattle.unavoidable_cli.proofs.WholeRuns.{unavoidable-outputs}
use Rattle.unavoidable_cli.proofs.show.finish.Goals as goal

pub returns-in-Ok : goal.returns-in-Ok
returns-in-Ok g c =
    let told = g.D.Desk.told in
    let q = unavoidable_task_of c.args.names.now in
    let f = c.args.finding.now in
    leaves-file (record { port = CertOut; name = q.new }) [] (cert_text f.new) (record { texts = []; report = finding_report f; objects = false })
    (told c.args.desk.now) (told c.make_cert.new.desk) (told c.say.new.desk) c.say.result c.make_cert.result
    (unavoidable-outputs q) (rw c.in-Ok.is refl) c.make_cert.ensures
    (leaves-text (finding_report f) false (told c.make_cert.new.desk) (told c.say.new.desk) c.say.result c.say.ensures)

pub returns-in-Err : goal.returns-in-Err
returns-in-Err g c =
    let told = g.D.Desk.told in
    let q = unavoidable_task_of c.args.names.now in
    let f = c.args.finding.now in
    let said = c.say_unwritten.ensures in
    leaves-unmade (record { port = CertOut; name = q.new }) [] (cert_text f.new) [] (finding_report f)
    (told c.args.desk.now) (told c.make_cert.new.desk) (told c.say_unwritten.new.desk) c.say_unwritten.result c.make_cert.result
    (unavoidable-outputs q) (rw c.in-Err.is refl) c.make_cert.ensures said.status said.says
