use Rattle.std.proofs.Common.{◌≡◌, true, false, sym, ◌∙◌}
use Rattle.guide_cli.proofs.FarDesigns.{near-failed, near-far, near-cut_off, near-grounded, far-is_near_of}
use Rattle.guide_cli.proofs.guided_files.read_near.Goals as goal

pub returns-in_err-design-clause-reads : goal.returns-in_err-design-clause-reads
returns-in_err-design-clause-reads g c =
    let told = g.D.Desk.told in
    let e = c.in_err-design.field-0.0 in
    near-failed c.args.name.now (told c.args.desk.now) (told c.read_design_source.new.desk) c.read_design_source.result c.from_residual.result e c.in_err-design.was c.from_residual.ensures.1
    (c.read_design_source.ensures.faults e c.in_err-design.was) c.read_design_source.ensures.reads

pub returns-then-not-is_near-clause-near : goal.returns-then-not-is_near-clause-near
returns-then-not-is_near-clause-near g c =
    far-is_near_of c.args.name.now (g.D.Desk.told c.args.desk.now) c.in_ok-design.design c.in_ok-design.ensures.named
    (λ near. let clash : true ≡ false = sym (c.is_near.ensures.1 near) ∙ c.if-not-is_near.true in cc clash)

pub returns-then-not-is_near-clause-reads : goal.returns-then-not-is_near-clause-reads
returns-then-not-is_near-clause-reads g c =
    let told = g.D.Desk.told in
    near-far c.args.name.now (told c.args.desk.now) (told c.read_design_source.new.desk) c.in_ok-design.ensures.reads

pub returns-in_err-of-clause-reads : goal.returns-in_err-of-clause-reads
returns-in_err-of-clause-reads g c =
    let told = g.D.Desk.told in
    let read = c.in_ok-design.ensures in
    near-cut_off c.args.name.now (told c.args.desk.now) (told c.read_design_source.new.desk) c.in_ok-design.design c.from_residual-in_err-of.result c.in_err-of.field-0.0
    read.reads read.named (c.is_near.ensures.0 c.if-not-is_near.false) c.in_err-of.ensures.cause c.from_residual-in_err-of.ensures.1

pub returns-clause-reads : goal.returns-clause-reads
returns-clause-reads g c =
    let told = g.D.Desk.told in
    let read = c.in_ok-design.ensures in
    let made = c.in_ok-of.ensures in
    near-grounded c.args.name.now (told c.args.desk.now) (told c.read_design_source.new.desk) c.in_ok-design.design c.in_ok-of.field-0 read.reads read.named made.design made.grounds
