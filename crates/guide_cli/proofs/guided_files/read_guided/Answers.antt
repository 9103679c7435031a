use Rattle.guide_cli.proofs.FarDesigns.{input-failed, routes-failed, input-read, is-read}
use Rattle.guide_cli.proofs.guided_files.read_guided.Goals as goal

pub returns-in_err-read_near-clause-reads : goal.returns-in_err-read_near-clause-reads
returns-in_err-read_near-clause-reads g c =
    let told = g.D.Desk.told in
    input-failed c.args.input.now c.args.routes.now (told c.args.desk.now) (told c.read_near.new.desk) c.from_residual.result c.in_err-read_near.field-0.0 c.from_residual.ensures.1 c.in_err-read_near.ensures.reads

pub returns-in-Far-clause-read : goal.returns-in-Far-clause-read
returns-in-Far-clause-read g c = rw c.in-Far.is at c.in_ok-read_near.ensures.near

pub returns-in-Far-clause-reads : goal.returns-in-Far-clause-reads
returns-in-Far-clause-reads g c = rw c.in-Far.is at c.in_ok-read_near.ensures.reads

pub returns-in_err-blocks-in-Near-clause-reads : goal.returns-in_err-blocks-in-Near-clause-reads
returns-in_err-blocks-in-Near-clause-reads g c =
    let told = g.D.Desk.told in
    let x = c.from_residual-in_err-blocks-in-Near in
    routes-failed c.args.input.now c.args.routes.now (told c.args.desk.now) (told c.read_near.new.desk) (told c.read_blocks.new.desk) c.in-Near.grounded c.read_blocks.result x.result
    c.in_err-blocks-in-Near.field-0.0 c.in_err-blocks-in-Near.was x.ensures.1 (rw c.in-Near.is at c.in_ok-read_near.ensures.near) (rw c.in-Near.is at c.in_ok-read_near.ensures.reads) c.read_blocks.ensures.reads

pub returns-in_ok-blocks-in-Near-clause-read : goal.returns-in_ok-blocks-in-Near-clause-read
returns-in_ok-blocks-in-Near-clause-read g c =
    let told = g.D.Desk.told in
    let read = c.in_ok-blocks-in-Near.ensures in
    is-read c.args.input.now c.args.routes.now (told c.args.desk.now) (told c.read_near.new.desk) (record { grounded = c.in-Near.grounded; blocks = c.in_ok-blocks-in-Near.blocks })
    (rw c.in-Near.is at c.in_ok-read_near.ensures.near) (rw c.in-Near.is at c.in_ok-read_near.ensures.reads) read.blocks read.judged

pub returns-in_ok-blocks-in-Near-clause-reads : goal.returns-in_ok-blocks-in-Near-clause-reads
returns-in_ok-blocks-in-Near-clause-reads g c =
    let told = g.D.Desk.told in
    input-read c.args.input.now c.args.routes.now (told c.args.desk.now) (told c.read_near.new.desk) (told c.read_blocks.new.desk) (record { grounded = c.in-Near.grounded; blocks = c.in_ok-blocks-in-Near.blocks })
    (rw c.in-Near.is at c.in_ok-read_near.ensures.reads) c.in_ok-blocks-in-Near.ensures.reads
