use Rattle.std.proofs.Common.{[], false, refl}
use Rattle.gr_desk.specs.declared.port.Port.TheVariants.{GuideOut}
use Rattle.guide_text.specs.GuideText.{guides_text}
use Rattle.command_runs.proofs.LeftOutcomes.{leaves-file, leaves-text, leaves-unmade}
use Rattle.guide_cli.specs.GuideLines.{guided_text}
use Rattle.guide_cli.specs.GuideRun.{guide_task_of}
use Rattle.guide_cli.proofs.GuidedRuns.{guide-outputs}
use Rattle.guide_cli.proofs.guiding.finish.Goals as goal

pub returns-in-Ok : goal.returns-in-Ok
returns-in-Ok g c =
    let told = g.D.Desk.told in
    let a = told c.args.desk.now in
    let b = told c.make_guides.new.desk in
    let d = told c.say.new.desk in
    let q = guide_task_of c.args.request.now in
    let guided = c.args.guided.now in
    let line = guided_text guided in
    leaves-file (record { port = GuideOut; name = q.guides }) [] (guides_text guided.guides.items) (record { texts = []; report = line; objects = false })
    a b d c.say.result c.make_guides.result (guide-outputs q) (rw c.in-Ok.is refl) (rw c.as_slice.ensures.value at c.make_guides.ensures) (leaves-text line false b d c.say.result c.say.ensures)

pub returns-in-Err : goal.returns-in-Err
returns-in-Err g c =
    let told = g.D.Desk.told in
    let a = told c.args.desk.now in
    let b = told c.make_guides.new.desk in
    let d = told c.say_unwritten.new.desk in
    let q = guide_task_of c.args.request.now in
    let guided = c.args.guided.now in
    let said = c.say_unwritten.ensures in
    leaves-unmade (record { port = GuideOut; name = q.guides }) [] (guides_text guided.guides.items) [] (guided_text guided) a b d
    c.say_unwritten.result c.make_guides.result (guide-outputs q) (rw c.in-Err.is refl) (rw c.as_slice.ensures.value at c.make_guides.ensures) said.status said.says
