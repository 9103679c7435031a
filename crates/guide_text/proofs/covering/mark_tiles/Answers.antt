use Rattle.std.proofs.Common.{arith}
use Rattle.guide_text.proofs.MarkedRects.{row_among, row_marked, all_rows_marked}
use Rattle.guide_text.proofs.covering.mark_tiles.Goals as goal

pub returns-then-not-mark_row : goal.returns-then-not-mark_row
returns-then-not-mark_row c = λ all.
    c.if-not-mark_row.ensures (λ v in_row. all v (row_among c.args.size c.args.rect c.loop-row.row v c.requires.whole c.loop-row.auto.row (omega (arith, c.loop-row-test.true)) in_row))

pub loop-row-preserved : goal.loop-row-preserved
loop-row-preserved c =
    row_marked c.args.size c.args.tiles.now.numbers.items c.args.rect c.loop-row.row c.args.marks.now.items c.loop-row.marks.items c.mark_row.new.marks.items c.loop-row.auto.row c.loop-row.invariant c.if-not-mark_row.ensures

pub returns : goal.returns
returns c =
    all_rows_marked c.args.size c.args.tiles.now.numbers.items c.args.rect c.loop-row.row c.args.marks.now.items c.loop-row.marks.items c.requires.whole
    (omega (arith, c.loop-row-test.false, c.loop-row.auto.row-end (omega (arith, c.requires.whole.row_order)))) c.loop-row.invariant
