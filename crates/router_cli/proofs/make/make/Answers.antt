use Rattle.std.proofs.Common.{◌≡◌, [], false, refl, subst}
use Rattle.gr_desk.specs.declared.port.Port.TheVariants.{DesignOut}
use Rattle.gr_make.specs.declared.shape.Shape.{Shape}
use Rattle.gr_make.specs.MadeText.{made_text}
use Rattle.command_runs.specs.Outputs.{Makes}
use Rattle.command_runs.specs.Saying.{Leaves, Says}
use Rattle.command_runs.proofs.EndedRuns.{run-left}
use Rattle.command_runs.proofs.LeftOutcomes.{leaves-file, leaves-text, leaves-unmade}
use Rattle.command_runs.proofs.ReadFiles.{reads-none}
use Rattle.router_cli.specs.MakeRun.{make_files, make_task_of, made_line, made_outcome}
use Rattle.router_cli.proofs.RouteFiles.{make-outputs}
use Rattle.router_cli.proofs.make.make.Goals as goal

pub returns-in-Ok : goal.returns-in-Ok
returns-in-Ok g c =
    let told = g.D.Desk.told in
    let a = told c.args.desk.now in
    let b = told c.make_design.new.desk in
    let d = told c.say.new.desk in
    let q = make_task_of c.args.request.now in
    let text = made_text q.seed q.shape in
    let line = made_line q.shape.nets in
    let shape = c.shape_of-shape.ensures.shape in
    let makes = subst (λ (s : Shape). Makes a b DesignOut q.output (made_text q.seed s) c.make_design.result) shape
    c.make_design.ensures in
    let says = subst (λ (s : Shape). Says (made_line s.nets) false b d c.say.result) shape c.say.ensures in
    let leaves : Leaves (make_files q) (made_outcome q) a d c.say.result =
    leaves-file (record { port = DesignOut; name = q.output }) [] text (record { texts = []; report = line; objects = false })
    a b d c.say.result c.make_design.result
    (make-outputs q) (rw c.in-Ok.is refl) makes (leaves-text line false b d c.say.result says) in
    run-left [] (make_files q) (λ outcome. outcome ≡ made_outcome q) a a d c.say.result (made_outcome q) tt
    (make-outputs q) refl (reads-none a q) leaves

pub returns-in-Err : goal.returns-in-Err
returns-in-Err g c =
    let told = g.D.Desk.told in
    let a = told c.args.desk.now in
    let b = told c.make_design.new.desk in
    let d = told c.say_unwritten.new.desk in
    let q = make_task_of c.args.request.now in
    let text = made_text q.seed q.shape in
    let said = c.say_unwritten.ensures in
    let makes = subst (λ (s : Shape). Makes a b DesignOut q.output (made_text q.seed s) c.make_design.result)
    c.shape_of-shape.ensures.shape c.make_design.ensures in
    let leaves : Leaves (make_files q) (made_outcome q) a d c.say_unwritten.result =
    leaves-unmade (record { port = DesignOut; name = q.output }) [] text [] (made_line q.shape.nets) a b d
    c.say_unwritten.result c.make_design.result
    (make-outputs q) (rw c.in-Err.is refl) makes said.status said.says in
    run-left [] (make_files q) (λ outcome. outcome ≡ made_outcome q) a a d c.say_unwritten.result (made_outcome q) tt
    (make-outputs q) refl (reads-none a q) leaves
