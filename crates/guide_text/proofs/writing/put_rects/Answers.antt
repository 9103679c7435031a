use Rattle.std.proofs.Common.{◌∙◌}
use Rattle.guide_text.specs.GuideText.{rect_text}
use Rattle.gr_desk.proofs.Pens.{puts-more, puts-whole}
use Rattle.guide_text.proofs.writing.put_rects.Goals as goal

pub loop-rect-preserved : goal.loop-rect-preserved
loop-rect-preserved g c = record {
  same_desk = c.put_rect.ensures.same_desk ∙ c.loop-rect.invariant.same_desk;
  puts = puts-more rect_text c.args.rects.now c.loop-rect.rect-index _ c.loop-rect-test.true c.loop-rect.invariant.puts c.put_rect.ensures.puts;
}

pub returns-clause-puts : goal.returns-clause-puts
returns-clause-puts g c = puts-whole rect_text c.args.rects.now c.loop-rect.rect-index c.loop-rect-test.false c.loop-rect.invariant.puts
