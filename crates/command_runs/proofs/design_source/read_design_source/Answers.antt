use Rattle.std.proofs.Common.{refl, sym, ◌∙◌}
use Rattle.gr_desk.specs.declared.port.Port.TheVariants.{In}
use Rattle.command_runs.proofs.ReadFiles.{file-unopened, file-read, file-too_long}
use Rattle.command_runs.proofs.ReadDesigns.{file-ended, taken-are_told}
use Rattle.command_runs.proofs.design_source.read_design_source.Goals as goal

pub returns-then-is_err-clause-reads : goal.returns-then-is_err-clause-reads
returns-then-is_err-clause-reads g c =
    let told = g.D.Desk.told in
    file-unopened (told c.args.desk.now) (told c.open.new.self) In c.args.name.now c.open.result c.open.ensures.does (sym c.is_err.ensures.value ∙ c.if-is_err.true)

pub returns-in_err-end-in-Ok-clause-reads : goal.returns-in_err-end-in-Ok-clause-reads
returns-in_err-end-in-Ok-clause-reads g c =
    let told = g.D.Desk.told in
    let read = c.in-Ok.ensures in
    file-ended (told c.args.desk.now) (told c.open.new.self) (told c.fed_reader.new.desk) c.args.name.now read.fed.bytes c.open.result c.from_residual.result c.in_err-end-in-Ok.field-0.0
    c.open.ensures.does (sym c.is_err.ensures.value ∙ c.if-is_err.false) read.fed.taken read.end (read.quiet (λ h. cc))
    (c.in_err-end-in-Ok.ensures.refusal read.fed.bytes read.fed.read) c.from_residual.ensures.1

pub returns-in_ok-end-in-Ok-clause-reads : goal.returns-in_ok-end-in-Ok-clause-reads
returns-in_ok-end-in-Ok-clause-reads g c =
    let told = g.D.Desk.told in
    let read = c.in-Ok.ensures in
    file-read (told c.args.desk.now) (told c.open.new.self) (told c.fed_reader.new.desk) In c.args.name.now read.fed.bytes c.open.result c.in_ok-end-in-Ok.field-0
    c.open.ensures.does (sym c.is_err.ensures.value ∙ c.if-is_err.false) read.fed.taken (read.quiet (λ h. cc))

pub returns-in-Err-TooLong-clause-reads : goal.returns-in-Err-TooLong-clause-reads
returns-in-Err-TooLong-clause-reads g c =
    let told = g.D.Desk.told in
    let read = c.in-Err-TooLong.ensures in
    let taken = read.too_long (let f = c.in-Err-TooLong.field-0-is in cc) in
    file-too_long (told c.args.desk.now) (told c.open.new.self) (told c.fed_reader.new.desk) In c.args.name.now taken.0 c.open.result refl
    c.open.ensures.does (sym c.is_err.ensures.value ∙ c.if-is_err.false) taken.1 taken.2 (read.quiet (λ h. let f = c.in-Err-TooLong.field-0-is in cc))

pub returns-in_ok-end-in-Ok-clause-named : goal.returns-in_ok-end-in-Ok-clause-named
returns-in_ok-end-in-Ok-clause-named g c =
    let told = g.D.Desk.told in
    let read = c.in-Ok.ensures in
    record {
      bytes = read.fed.bytes;
      is_so = c.in_ok-end-in-Ok.ensures.design read.fed.bytes read.fed.read;
      are_told = taken-are_told (told c.args.desk.now) (told c.open.new.self) (told c.fed_reader.new.desk) In c.args.name.now read.fed.bytes c.open.result
          c.open.ensures.does (sym c.is_err.ensures.value ∙ c.if-is_err.false) read.fed.taken read.end;
    }
