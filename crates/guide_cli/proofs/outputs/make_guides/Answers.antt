use Rattle.gr_desk.specs.declared.port.Port.TheVariants.{GuideOut}
use Rattle.command_runs.proofs.MadeFiles.{makes-written, makes-refused}
use Rattle.guide_cli.proofs.outputs.make_guides.Goals as goal

pub returns-in_err-create : goal.returns-in_err-create
returns-in_err-create g c =
    let told = g.D.Desk.told in
    makes-refused (told c.args.desk.now) (told c.create.new.self) GuideOut c.args.name.now _ c.create.result c.in_err-create.field-0.0 c.from_residual.result
    c.create.ensures.does c.in_err-create.was c.from_residual.ensures.0

pub returns : goal.returns
returns g c =
    let told = g.D.Desk.told in
    makes-written (told c.args.desk.now) (told c.create.new.self) (told c.write_guides.new.desk) GuideOut c.args.name.now _ c.create.result c.in_ok-create.field-0 c.write_guides.result
    c.create.ensures.does c.in_ok-create.was c.write_guides.ensures.ends
