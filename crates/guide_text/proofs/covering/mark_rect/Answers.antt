use Rattle.guide_text.proofs.MarkedRects.{rect_marked}
use Rattle.guide_text.proofs.covering.mark_rect.Goals as goal

pub returns-in-Some : goal.returns-in-Some
returns-in-Some c =
    rect_marked c.args.grid.now c.args.tiles.now.numbers.items c.args.rect c.in-Some.inside c.args.marks.now.items c.mark_tiles.new.marks.items c.mark_tiles.result c.in-Some.ensures (rw c.size.ensures at c.mark_tiles.ensures)
