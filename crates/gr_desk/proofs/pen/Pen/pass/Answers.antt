use Rattle.std.proofs.Common.{refl}
use Rattle.gr_desk.specs.Pens.{pen_told}
use Rattle.gr_desk.proofs.Pens.{ends-written_at_once, puts-written, puts-nowhere}
use Rattle.gr_desk.proofs.pen.Pen.pass.Goals as goal

pub returns-then-not-self-clause-puts : goal.returns-then-not-self-clause-puts
returns-then-not-self-clause-puts g c =
    let wrote = c.write_all.ensures in
    puts-written (pen_told g.D.Desk.told c.args.self.now) _ c.args.bytes.now c.write_all.result c.if-not-self.true refl c.is_err-self.ensures.value c.requires
    (rw c.requires (ends-written_at_once _ _ _ _ c.write_all.result wrote.all wrote.part wrote.cause wrote.quiet))

pub returns-else-not-self-clause-puts : goal.returns-else-not-self-clause-puts
returns-else-not-self-clause-puts g c =
    puts-nowhere (pen_told g.D.Desk.told c.args.self.now) _ c.args.bytes.now c.if-not-self.false c.if-not-self.false refl refl
