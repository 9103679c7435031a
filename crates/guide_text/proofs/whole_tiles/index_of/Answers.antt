use Rattle.std.proofs.Common.{arith, w64}
use Rattle.std.proofs.lemmas.Int.{ints, to_z-of_z}
use Rattle.guide_text.proofs.BorderTiles.{offset_divides, border_at_offset}
use Rattle.guide_text.proofs.whole_tiles.index_of.Goals as goal

pub returns-then-offset-width-ne0 : goal.returns-then-offset-width-ne0
returns-then-offset-width-ne0 c = λ index same.
    let offset = rw (to_z-of_z w64 c.args.at c.ranges.at, to_z-of_z w64 c.args.origin c.ranges.origin) at c.abs_diff-offset.ensures in
    let width = rw (to_z-of_z w64 c.args.tile c.ranges.tile) at c.unsigned_abs-width.ensures.value in
    c.if-offset-width-ne0.true (rw (offset, width) (offset_divides c.args.origin c.args.tile c.args.at index c.requires same))

pub returns : goal.returns
returns c =
    let offset = rw (to_z-of_z w64 c.args.at c.ranges.at, to_z-of_z w64 c.args.origin c.ranges.origin) at c.abs_diff-offset.ensures in
    let width = rw (to_z-of_z w64 c.args.tile c.ranges.tile) at c.unsigned_abs-width.ensures.value in
    let below = rw (to_z-of_z w64 c.args.at c.ranges.at, to_z-of_z w64 c.args.origin c.ranges.origin) at c.if-at-origin.false in
    rw (offset, width) (border_at_offset c.args.origin c.args.tile c.args.at (grind (arith, ints, below)) (rw (offset, width) at c.if-offset-width-ne0.false))
