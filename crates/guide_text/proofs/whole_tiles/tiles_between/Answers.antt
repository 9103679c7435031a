use Rattle.std.proofs.Common.{arith, w64, inl, inr}
use Rattle.std.proofs.lemmas.Int.{to_z-of_z}
use Rattle.guide_text.proofs.BorderTiles.{none_between}
use Rattle.guide_text.proofs.whole_tiles.tiles_between.Goals.{then-first-end-via-then-first-end, then-first-end-via-else-first-end+then-end-from}
use Rattle.guide_text.proofs.whole_tiles.tiles_between.Goals as goal

pub returns-then-first-end : goal.returns-then-first-end
returns-then-first-end c =
    let lower = rw (to_z-of_z w64 c.args.origin c.ranges.origin, to_z-of_z w64 c.args.tile c.ranges.tile, to_z-of_z w64 c.args.from c.ranges.from) at c.in_ok-first.ensures in
    let upper = rw (to_z-of_z w64 c.args.origin c.ranges.origin, to_z-of_z w64 c.args.tile c.ranges.tile, to_z-of_z w64 c.args.to c.ranges.to) at c.in_ok-end.ensures in
    none_between c.args.origin c.args.tile c.args.from c.args.to c.args.count c.in_ok-first.first c.in_ok-end.end c.requires lower upper
    (elim c.then-first-end.branch [ then-first-end-via-then-first-end w ↦ inl (omega (arith, w.if-first-end.true)) | then-first-end-via-else-first-end+then-end-from w ↦ inr (omega (arith, w.if-end-from.true, w.from.ensures)) ])
