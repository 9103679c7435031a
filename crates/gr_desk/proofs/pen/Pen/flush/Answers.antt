use Rattle.std.proofs.Common.{[], refl, sym}
use Rattle.std.proofs.lemmas.List.{append-nil}
use Rattle.gr_desk.specs.Pens.{pen_told}
use Rattle.gr_desk.proofs.Pens.{ends-written_at_once, puts-written, puts-nowhere}
use Rattle.gr_desk.proofs.pen.Pen.flush.Goals as goal
use Rattle.gr_desk.proofs.pen.Pen.flush.Goals.{then-not-self, else-not-self}

pub returns-clause-puts : goal.returns-clause-puts
returns-clause-puts g c =
    let told = g.D.Desk.told in
    let before = pen_told told c.args.self.now in
    elim c.if-not-self.branch [
      | then-not-self w ↦ rw w.self-is
          (puts-written before _ [] w.write_all.result w.if-not-self.true refl w.is_err-self.ensures.value c.clear.ensures
          (rw (append-nil c.args.self.now.held, sym w.bytes.ensures) (let wrote = w.write_all.ensures in ends-written_at_once _ _ _ _ w.write_all.result wrote.all wrote.part wrote.cause wrote.quiet)))
      | else-not-self w ↦ rw w.self-is (puts-nowhere before _ [] w.if-not-self.false w.if-not-self.false refl refl)
    ]
