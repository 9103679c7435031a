use Rattle.std.proofs.Common.{take}
use Rattle.gr_desk.specs.Pens.{Puts, pen_told, HasSameDesk}
use Rattle.command_runs.specs.Lines.{fields}
use Rattle.command_runs.proofs.lines.put_fields.Given as goal

abbrev pub invariant-loop-number : goal.invariant-loop-number
invariant-loop-number g l = record {
  same_desk : HasSameDesk l.fn.pen l.pen;
  puts : Puts (pen_told g.D.Desk.told l.fn.pen) (pen_told g.D.Desk.told l.pen) (fields (take l.number-index l.numbers));
}
