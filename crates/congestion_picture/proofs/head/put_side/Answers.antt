use Rattle.std.proofs.lemmas.Bool.{le-ltb, lt-ltb}
use Rattle.gr_desk.specs.Pens.{pen_told}
use Rattle.gr_desk.proofs.Pens.{puts-refl, puts-then}
use Rattle.congestion_picture.proofs.head.put_side.Goals as goal

pub returns-then-side-gt1-clause-puts : goal.returns-then-side-gt1-clause-puts
returns-then-side-gt1-clause-puts g c =
    rw (lt-ltb 1 c.args.side c.if-side-gt1.true) (puts-then (puts-then (puts-then (puts-then c.put.ensures.puts c.put_number.ensures.puts) c.put-then-side-gt1.ensures.puts) c.put_number-then-side-gt1.ensures.puts) c.put-then-side-gt1-2.ensures.puts)

pub returns-else-side-gt1-clause-puts : goal.returns-else-side-gt1-clause-puts
returns-else-side-gt1-clause-puts g c = rw (le-ltb 1 c.args.side c.if-side-gt1.false) (puts-refl (pen_told g.D.Desk.told c.args.pen.now))
