use Rattle.std.proofs.Common.{◌∙◌, sym}
use Rattle.guide_text.specs.GuideText.{guide_text}
use Rattle.gr_desk.proofs.Pens.{puts-more, puts-whole}
use Rattle.guide_text.proofs.writing.put_guides.Goals as goal

pub loop-k-preserved : goal.loop-k-preserved
loop-k-preserved g c = record {
  same_desk = c.put_guide.ensures.same_desk ∙ c.loop-k.invariant.same_desk;
  puts = puts-more guide_text c.args.guides.now c.loop-k.k c.index-guides-k.result c.loop-k-test.true c.loop-k.invariant.puts (rw (sym c.index-guides-k.is) c.put_guide.ensures.puts);
}

pub returns-clause-puts : goal.returns-clause-puts
returns-clause-puts g c = puts-whole guide_text c.args.guides.now c.loop-k.k c.loop-k-test.false c.loop-k.invariant.puts
