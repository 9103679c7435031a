use Rattle.std.proofs.Common.{take}
use Rattle.std.specs.Prelude.{flat_map}
use Rattle.gr_desk.specs.Pens.{Puts, pen_told, HasSameDesk}
use Rattle.guide_text.specs.GuideText.{rect_text}
use Rattle.guide_text.proofs.writing.put_rects.Given as goal

abbrev pub invariant-loop-rect : goal.invariant-loop-rect
invariant-loop-rect g l = record {
  same_desk : HasSameDesk l.fn.pen l.pen;
  puts : Puts (pen_told g.D.Desk.told l.fn.pen) (pen_told g.D.Desk.told l.pen) (flat_map rect_text (take l.rect-index l.rects));
}
