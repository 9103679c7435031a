use Rattle.std.proofs.Common.{rules, SFits, w64}
use Rattle.std.proofs.lemmas.Int.{to_z-of_z}
use Rattle.guide_text.proofs.BorderTiles.{cols_between, rows_between, names_layer}
use Rattle.guide_text.proofs.whole_tiles.tiles_of.Goals as goal

pub returns-in_err-cols : goal.returns-in_err-cols
returns-in_err-cols c = rw c.from_residual.ensures (λ tiles consists.
    let g = c.args.grid.now in
    let in_x1 : SFits w64 c.args.rect.x1 = search rules in
    let in_x2 : SFits w64 c.args.rect.x2 = search rules in
    let in_origin : SFits w64 g.parts.origin.0 = search rules in
    let in_tile : SFits w64 g.parts.tile.0 = search rules in
    let none = rw (c.origin-origin.ensures, c.tile-tile.ensures, c.cols.ensures, c.size-size.ensures, to_z-of_z w64 g.parts.origin.0 in_origin, to_z-of_z w64 g.parts.tile.0 in_tile, to_z-of_z w64 c.args.rect.x1 in_x1, to_z-of_z w64 c.args.rect.x2 in_x2) at c.in_err-cols.ensures in
    none tiles.first_col tiles.last_col (cols_between g c.args.rect tiles consists))

pub returns-in_err-rows : goal.returns-in_err-rows
returns-in_err-rows c = rw c.from_residual-in_err-rows.ensures (λ tiles consists.
    let g = c.args.grid.now in
    let in_y1 : SFits w64 c.args.rect.y1 = search rules in
    let in_y2 : SFits w64 c.args.rect.y2 = search rules in
    let in_origin : SFits w64 g.parts.origin.1 = search rules in
    let in_tile : SFits w64 g.parts.tile.1 = search rules in
    let none = rw (c.origin-origin.ensures, c.tile-tile.ensures, c.rows.ensures, c.size-size.ensures, to_z-of_z w64 g.parts.origin.1 in_origin, to_z-of_z w64 g.parts.tile.1 in_tile, to_z-of_z w64 c.args.rect.y1 in_y1, to_z-of_z w64 c.args.rect.y2 in_y2) at c.in_err-rows.ensures in
    none tiles.first_row tiles.last_row (rows_between g c.args.rect tiles consists))

pub returns-in_err-layer : goal.returns-in_err-layer
returns-in_err-layer c = rw c.from_residual-in_err-layer.ensures (λ tiles consists.
    let g = c.args.grid.now in
    let in_layer : SFits w64 c.args.rect.layer = search rules in
    let none = rw (c.layers.ensures, c.size-size.ensures, to_z-of_z w64 c.args.rect.layer in_layer) at c.in_err-layer.ensures in
    none tiles.layer consists.0.layer (names_layer g c.args.rect tiles consists))
