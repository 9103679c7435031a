use Rattle.std.proofs.Common.{sym, ◌∙◌}
use Rattle.command_runs.proofs.ReadFiles.{file-unopened, file-read, file-too_long}
use Rattle.command_runs.proofs.sources.read_source.Goals as goal

pub returns-then-is_err-clause-reads : goal.returns-then-is_err-clause-reads
returns-then-is_err-clause-reads g c =
    let told = g.D.Desk.told in
    file-unopened (told c.args.desk.now) (told c.open.new.self) c.args.port c.args.name.now c.open.result c.open.ensures.does (sym c.is_err.ensures.value ∙ c.if-is_err.true)

pub returns-in-Ok-clause-reads : goal.returns-in-Ok-clause-reads
returns-in-Ok-clause-reads g c =
    let told = g.D.Desk.told in
    let read = c.in-Ok.ensures in
    file-read (told c.args.desk.now) (told c.open.new.self) (told c.read_port.new.desk) c.args.port c.args.name.now c.in-Ok.bytes.items c.open.result c.in-Ok.bytes
    c.open.ensures.does (sym c.is_err.ensures.value ∙ c.if-is_err.false) read.whole (read.quiet (λ h. cc))

pub returns-in-Err-TooLong-clause-reads : goal.returns-in-Err-TooLong-clause-reads
returns-in-Err-TooLong-clause-reads g c =
    let told = g.D.Desk.told in
    let read = c.in-Err-TooLong.ensures in
    let taken = read.too_long (let f = c.in-Err-TooLong.field-0-is in cc) in
    rw c.too_long_at.ensures (file-too_long (told c.args.desk.now) (told c.open.new.self) (told c.read_port.new.desk) c.args.port c.args.name.now taken.0 c.open.result c.requires.input
    c.open.ensures.does (sym c.is_err.ensures.value ∙ c.if-is_err.false) taken.1 taken.2 (read.quiet (λ h. let f = c.in-Err-TooLong.field-0-is in cc)))
