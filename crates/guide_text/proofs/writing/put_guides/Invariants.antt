use Rattle.std.proofs.Common.{take}
use Rattle.gr_desk.specs.Pens.{Puts, pen_told, HasSameDesk}
use Rattle.guide_text.specs.GuideText.{guides_text}
use Rattle.guide_text.proofs.writing.put_guides.Given as goal

abbrev pub invariant-loop-k : goal.invariant-loop-k
invariant-loop-k g l = record {
  same_desk : HasSameDesk l.fn.pen l.pen;
  puts : Puts (pen_told g.D.Desk.told l.fn.pen) (pen_told g.D.Desk.told l.pen) (guides_text (take l.k l.guides));
}
