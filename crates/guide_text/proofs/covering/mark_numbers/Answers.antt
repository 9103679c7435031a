use Rattle.std.proofs.Common.{arith}
use Rattle.guide_text.specs.Marking.{IsInSpan}
use Rattle.guide_text.proofs.Marks.{marked_same, number_marked}
use Rattle.guide_text.proofs.covering.mark_numbers.Goals as goal

pub loop-number-preserved : goal.loop-number-preserved
loop-number-preserved c =
    let tiles = c.args.tiles.now in
    number_marked tiles.numbers.items c.args.marks.now.items c.loop-number.marks.items c.args.first c.loop-number.number c.in-Some.at tiles.rising c.requires.long c.loop-number.auto.number c.in-Some.ensures.0 c.in-Some.ensures.1 c.loop-number.invariant

pub returns : goal.returns
returns c =
    marked_same c.args.tiles.now.numbers.items (IsInSpan c.args.first c.loop-number.number) (IsInSpan c.args.first c.args.end) c.args.marks.now.items c.loop-number.marks.items
    (λ v. (λ from. (from.0, omega (arith, from.1, c.loop-number-test.false)), λ from. (from.0, omega (arith, from.1, c.loop-number.auto.number-end c.requires.order))))
    c.loop-number.invariant
