use Rattle.std.proofs.Common.{drop}
use Rattle.gr_desk.specs.Pens.{HasSameDesk, PenTold, Puts, pen_told}
use Rattle.congestion_picture.specs.Heads.{escaped, escaped_behind}
use Rattle.congestion_picture.proofs.head.put_escaped.Given as goal

abbrev pub invariant-loop-byte : goal.invariant-loop-byte
invariant-loop-byte g l = record {
  same_desk : HasSameDesk l.fn.pen l.pen;
  puts : (later : PenTold) → Puts (pen_told g.D.Desk.told l.pen) later (escaped_behind l.before l.last (drop l.byte-index l.name)) → Puts (pen_told g.D.Desk.told l.fn.pen) later (escaped l.name);
}
