use Rattle.std.proofs.Common.{ap, ◌∙◌, arith}
use Rattle.grid_base.specs.Numbers.{cols, rows, layers}
use Rattle.grid_base.proofs.Extents.{cols_within, rows_within}
use Rattle.grid_graph.specs.Grids.{size_of}
use Rattle.guide_text.proofs.BorderOrder.{near_along_x, near_along_y}
use Rattle.guide_text.proofs.borders.is_near.Goals as goal

pub is_border_near-requires-clause-many : goal.is_border_near-requires-clause-many
is_border_near-requires-clause-many c =
    let s = size_of c.args.grid.now in
    omega (arith, c.cols.ensures, ap cols c.size-size.ensures, cols_within (cols s) (rows s) (layers s) s.within)

pub is_border_near-requires-then-is_border_near-clause-many : goal.is_border_near-requires-then-is_border_near-clause-many
is_border_near-requires-then-is_border_near-clause-many c =
    let s = size_of c.args.grid.now in
    omega (arith, c.rows.ensures, ap rows c.size-size.ensures, rows_within (cols s) (rows s) (layers s) s.within)

pub returns-then-is_border_near : goal.returns-then-is_border_near
returns-then-is_border_near c =
    let g = c.args.grid.now in
    let x = near_along_x g _ _ _ c.is_border_near.result (ap (λ p. p.0) c.origin-origin.ensures) (ap (λ p. p.0) c.tile-tile.ensures) (c.cols.ensures ∙ ap cols c.size-size.ensures) c.is_border_near.ensures in
    let y = near_along_y g _ _ _ c.is_border_near-then-is_border_near.result (ap (λ p. p.1) c.origin-origin.ensures) (ap (λ p. p.1) c.tile-tile.ensures) (c.rows.ensures ∙ ap rows c.size-size.ensures) c.is_border_near-then-is_border_near.ensures in (
      λ yes. record { right = x.0 c.if-is_border_near.true; upper = y.0 yes },
      λ near. y.1 near.upper,
    )

pub returns-else-is_border_near : goal.returns-else-is_border_near
returns-else-is_border_near c =
    let g = c.args.grid.now in
    let x = near_along_x g _ _ _ c.is_border_near.result (ap (λ p. p.0) c.origin-origin.ensures) (ap (λ p. p.0) c.tile-tile.ensures) (c.cols.ensures ∙ ap cols c.size-size.ensures) c.is_border_near.ensures in (
      λ yes. let no = c.if-is_border_near.false in cc,
      λ near. x.1 near.right,
    )
