use Rattle.std.proofs.Common.{[], false, refl}
use Rattle.command_runs.proofs.LeftOutcomes.{leaves-file, leaves-text, leaves-unmade}
use Rattle.command_words.specs.MapLine.{map_task_of}
use Rattle.gr_desk.specs.declared.port.Port.TheVariants.{MapOut}
use Rattle.judge_cli.specs.AnswerLines.{routes_report_text}
use Rattle.congestion_cli.specs.Drawings.{drawing_text}
use Rattle.congestion_cli.proofs.WholeMaps.{map-outputs}
use Rattle.congestion_cli.proofs.show.finish.Goals as goal

pub returns-in-Ok : goal.returns-in-Ok
returns-in-Ok g c =
    let told = g.D.Desk.told in
    let q = map_task_of c.args.request.now in
    let text = drawing_text q.input c.args.drawing.now in
    let report = routes_report_text c.args.report in
    leaves-file (record { port = MapOut; name = q.map }) [] text (record { texts = []; report = report; objects = false })
    (told c.args.desk.now) (told c.make_map.new.desk) (told c.say.new.desk) c.say.result c.make_map.result
    (map-outputs q) (rw c.in-Ok.is refl) c.make_map.ensures
    (leaves-text report false (told c.make_map.new.desk) (told c.say.new.desk) c.say.result c.say.ensures)

pub returns-in-Err : goal.returns-in-Err
returns-in-Err g c =
    let told = g.D.Desk.told in
    let q = map_task_of c.args.request.now in
    let text = drawing_text q.input c.args.drawing.now in
    let said = c.say_unwritten.ensures in
    leaves-unmade (record { port = MapOut; name = q.map }) [] text [] (routes_report_text c.args.report)
    (told c.args.desk.now) (told c.make_map.new.desk) (told c.say_unwritten.new.desk) c.say_unwritten.result c.make_map.result
    (map-outputs q) (rw c.in-Err.is refl) c.make_map.ensures said.status said.says
