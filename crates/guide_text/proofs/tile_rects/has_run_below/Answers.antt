use Rattle.std.proofs.Common.{◌≡◌, ◌-◌, subst, arith}
use Rattle.std.proofs.lemmas.Bool.{ltb-true}
use Rattle.guide_text.specs.TileRects.{IsTileRun}
use Rattle.guide_text.proofs.tile_rects.has_run_below.Goals as goal

pub returns-then-row-gt0 : goal.returns-then-row-gt0
returns-then-row-gt0 c =
    let tiles = c.args.tiles.now in
    let row = c.args.row in (
      λ yes. (row - 1, omega (arith, c.if-row-gt0.true), c.is_run.ensures.0 yes),
      λ b. let same : b.0 ≡ row - 1 = omega (arith, b.1) in c.is_run.ensures.1 (subst (λ r. IsTileRun tiles.size tiles.numbers.items c.args.layer r c.args.first_col c.args.last_col) same b.2),
    )

pub returns-else-row-gt0 : goal.returns-else-row-gt0
returns-else-row-gt0 c = (λ above. absurd (omega (arith, ltb-true 0 c.args.row above, c.if-row-gt0.false)), λ b. absurd (omega (arith, b.1, c.if-row-gt0.false)))
