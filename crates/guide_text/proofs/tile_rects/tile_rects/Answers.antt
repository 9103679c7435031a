use Rattle.std.proofs.lemmas.Result.{IfOk-weaker}
use Rattle.guide_text.specs.RouteTiles.{route_tiles}
use Rattle.guide_text.specs.TileRects.{AreTileRects}
use Rattle.guide_text.proofs.Same.{rects_of_same}
use Rattle.guide_text.proofs.tile_rects.tile_rects.Goals as goal

pub returns : goal.returns
returns c =
    let s = c.args.size in
    let tiles = c.in_ok-tiles.tiles in
    let route = route_tiles s c.args.tree.now c.args.terminals.now in
    IfOk-weaker c.rects_of.result (λ rects. AreTileRects s tiles.numbers.items rects.items) (λ rects. AreTileRects s route rects.items)
    (λ rects. rects_of_same s tiles.numbers.items route c.in_ok-tiles.ensures.same rects.items) (rw c.in_ok-tiles.ensures.size at c.rects_of.ensures)
