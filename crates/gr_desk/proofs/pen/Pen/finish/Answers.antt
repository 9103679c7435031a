use Rattle.std.proofs.Common.{sym}
use Rattle.gr_desk.specs.Pens.{pen_told}
use Rattle.gr_desk.proofs.Pens.{ends-written_at_once, ends-behind, ends-cut_off}
use Rattle.gr_desk.proofs.pen.Pen.finish.Goals as goal

pub returns-then-failed : goal.returns-then-failed
returns-then-failed g c start text put = ends-cut_off start (pen_told g.D.Desk.told c.args.self) text _ (put.1 c.if-failed.true)

pub returns : goal.returns
returns g c start text put =
    let back = put.0 c.if-failed.false in
    let wrote = c.write_all.ensures in
    let told = g.D.Desk.told in
    rw (back.2, sym c.bytes.ensures)
    (ends-behind start (told c.args.self.desk.now) (told c.write_all.new.desk) c.args.self.port back.0 c.bytes.result.now c.write_all.result back.1 back.3
    (ends-written_at_once _ _ _ _ c.write_all.result wrote.all wrote.part wrote.cause wrote.quiet))
