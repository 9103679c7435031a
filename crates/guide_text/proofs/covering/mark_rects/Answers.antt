use Rattle.std.proofs.Common.{List, refl, subst}
use Rattle.std.specs.Prelude.{All}
use Rattle.std.proofs.lemmas.List.{take_all}
use Rattle.guide_text.specs.declared.rect.Rect.{Rect}
use Rattle.guide_text.specs.Covering.{IsCovered, IsTiled}
use Rattle.guide_text.specs.Marking.{AreMarked}
use Rattle.guide_text.proofs.MarkedRects.{rects_marked_more, not_all_marked}
use Rattle.guide_text.proofs.covering.mark_rects.Goals as goal

pub returns-then-not-mark_rect : goal.returns-then-not-mark_rect
returns-then-not-mark_rect c =
    not_all_marked c.args.grid.now c.args.tiles.now.numbers.items c.args.rects.now c.loop-rect.rect-index _ _ c.loop-rect-test.true refl c.if-not-mark_rect.ensures

pub loop-rect-preserved : goal.loop-rect-preserved
loop-rect-preserved c =
    let more = rects_marked_more c.args.grid.now c.args.tiles.now.numbers.items c.args.rects.now c.loop-rect.rect-index _ _ c.args.marks.now.items c.loop-rect.marks.items c.mark_rect.new.marks.items c.loop-rect-test.true refl
    (c.loop-rect.invariant.whole, c.loop-rect.invariant.marked) c.if-not-mark_rect.ensures in
    record { whole = more.0; marked = more.1 }

pub returns : goal.returns
returns c =
    subst (λ (rects : List Rect). All (IsTiled c.args.grid.now) rects × AreMarked c.args.tiles.now.numbers.items (IsCovered c.args.grid.now rects) c.args.marks.now.items c.loop-rect.marks.items)
    (take_all c.loop-rect.rect-index c.args.rects.now c.loop-rect-test.false) (c.loop-rect.invariant.whole, c.loop-rect.invariant.marked)
